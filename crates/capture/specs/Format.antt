-- Classic pcap, version 2.4, for who reads it and who writes it: which words stand in a capture's header and in a record's, in their order,
-- and the bytes of a record and of a capture. No other file describes the format.
-- Assumes nothing.
use Rattle.std.specs.Prelude.{Bool, List, [], ◌∷◌, ◌++◌, ℕ, length, get_or}
use Rattle.words.specs.Layouts.{Word, two, four, sizes, numbers_at, bytes_for}

-- ---- the header of a capture: magic, major and minor version, zone, accuracy, snap length, link type
abbrev pub header_words : List Word
header_words = four ∷ (two ∷ (two ∷ (four ∷ (four ∷ (four ∷ (four ∷ []))))))

abbrev pub header_size : ℕ
header_size = sizes header_words

abbrev pub magic : ℕ
magic = 0xa1b2c3d4

-- "version 2.4", "link type 1"
abbrev pub major : ℕ
major = 2

abbrev pub minor : ℕ
minor = 4

abbrev pub link_type : ℕ
link_type = 1

-- "over 2,048 captured bytes" are too many to read, and to write; it is the snap length that is written, too
abbrev pub most_captured : ℕ
most_captured = 2048

-- what is written: "zone 0, accuracy 0 and snap length 2,048"
abbrev pub header_numbers : List ℕ
header_numbers = magic ∷ (major ∷ (minor ∷ (0 ∷ (0 ∷ (most_captured ∷ (link_type ∷ []))))))

abbrev pub header_bytes : Bool → List ℕ
header_bytes big = bytes_for big header_words header_numbers

-- what a header says, word by word
abbrev pub header_word : Bool → List ℕ → ℕ → ℕ
header_word big l k = get_or (numbers_at big header_words l 0) k 0

abbrev pub magic_in : Bool → List ℕ → ℕ
magic_in big l = header_word big l 0

abbrev pub major_in : Bool → List ℕ → ℕ
major_in big l = header_word big l 1

abbrev pub minor_in : Bool → List ℕ → ℕ
minor_in big l = header_word big l 2

abbrev pub zone_in : Bool → List ℕ → ℕ
zone_in big l = header_word big l 3

abbrev pub accuracy_in : Bool → List ℕ → ℕ
accuracy_in big l = header_word big l 4

abbrev pub snap_length_in : Bool → List ℕ → ℕ
snap_length_in big l = header_word big l 5

abbrev pub link_type_in : Bool → List ℕ → ℕ
link_type_in big l = header_word big l 6

-- ---- the header of a record: seconds, microseconds, captured length, original length
abbrev pub record_words : List Word
record_words = four ∷ (four ∷ (four ∷ (four ∷ [])))

abbrev pub record_size : ℕ
record_size = sizes record_words

-- what a record's header that starts at a place says, word by word
abbrev pub record_word : Bool → ℕ → List ℕ → ℕ → ℕ
record_word big at l k = get_or (numbers_at big record_words l at) k 0

abbrev pub seconds_in : Bool → ℕ → List ℕ → ℕ
seconds_in big at l = record_word big at l 0

abbrev pub microseconds_in : Bool → ℕ → List ℕ → ℕ
microseconds_in big at l = record_word big at l 1

abbrev pub captured_in : Bool → ℕ → List ℕ → ℕ
captured_in big at l = record_word big at l 2

abbrev pub original_in : Bool → ℕ → List ℕ → ℕ
original_in big at l = record_word big at l 3

-- ---- a record's content, wherever it stands: its "seconds, microseconds, original lengths and bytes"
pub record Content : Type 0 where
  pub seconds : ℕ
  pub microseconds : ℕ
  pub original : ℕ
  pub bytes : List ℕ

abbrev pub content_of : ℕ → ℕ → ℕ → List ℕ → Content
content_of seconds microseconds original bytes =
    record { seconds = seconds; microseconds = microseconds; original = original; bytes = bytes }

-- its bytes: the header, and the captured bytes
abbrev pub record_numbers : Content → List ℕ
record_numbers r = r.seconds ∷ (r.microseconds ∷ (length r.bytes ∷ (r.original ∷ [])))

abbrev pub record_bytes : Bool → Content → List ℕ
record_bytes big r = bytes_for big record_words (record_numbers r) ++ r.bytes

-- records after one another, and a whole capture
abbrev pub records_bytes : Bool → List Content → List ℕ
records_bytes big [] = []
records_bytes big (r ∷ records) = record_bytes big r ++ records_bytes big records

abbrev pub capture_bytes : Bool → List Content → List ℕ
capture_bytes big records = header_bytes big ++ records_bytes big records
