-- Over whole captures: reading what was written gives the records back, and writing what was read gives the capture back, byte for byte.
-- Assumes nothing.
use mathlib.Core.Bool.{Bool, true, false}
use mathlib.Core.List.{List, [], ◌∷◌, ◌++◌, map, append_assoc, append-nil}
use mathlib.Core.Path.{◌≡◌, refl, sym, ap, subst, ◌∙◌}
use Prim.Native.Nat.{ℕ, zero, suc, ◌+◌, ◌-◌, ◌≤◌, ◌<◌}
use native.Mathlib.Nat.{add-zero}
use native.Mathlib.Omega.{arith}
use lib.ListN.{length, get_or, take, drop, length-append, length-take, length-drop, take-append-drop, drop_of_length-le}
use lib.Seq.{drop-drop, take-add, drop_at, take_at}
use Rattle.std.specs.Prelude.{Ok}
use Rattle.words.specs.Words.{stored}
use Rattle.words.proofs.Words.{all_stored, stored_length, stored_then}
use Rattle.words.specs.Layouts.{Bytes, limit, four, bytes_for, numbers_at, Holds}
use Rattle.words.proofs.Layouts.{numbers_back, in_range, layout_back, layout_size}
use Rattle.capture.specs.declared.Cursor.{Cursor}
use Rattle.capture.specs.declared.Record.{Record}
use Rattle.capture.specs.declared.Reading.TheVariants.{End, Cut, Long, Whole}
use Rattle.capture.specs.Format.{Content, content_of, record_words, record_numbers, record_bytes, records_bytes, capture_bytes, header_bytes}
use Rattle.capture.specs.Format.{header_words, zone_in, accuracy_in, snap_length_in}
use Rattle.capture.specs.Capture.{opened_of, head_at, next_of}
use Rattle.capture.specs.Whole.{Course, moved_to, turn, in_turn, course_of, Each, all_bytes, bytes_of, content_in, records_in, Writable, AllWritable}
use Rattle.capture.proofs.Readings.{opened, at_the_end, is_whole, tells, whole_record}
use Rattle.capture.proofs.Whole.{covers, Opens, says}
use Rattle.capture.proofs.Writings.{have_room, few_enough, the_header}
use Rattle.capture.specs.Writing.{Put, put_of, next_put, records_put, capture_put}

-- a cursor
abbrev pub cursor_at : Bool → ℕ → Cursor
cursor_at big at = record { at = at; big_endian = big }

-- ---- one record that was written, behind other bytes and before more
module _ (big : Bool) (before : List ℕ) (r : Content) (rest : List ℕ) (ok : Writable r) where
  abbrev at : ℕ
  at = length before

  abbrev header : List ℕ
  header = bytes_for big record_words (record_numbers r)

  holds : Holds record_words (record_numbers r)
  holds = (ok.0, (ok.1, (omega (arith, ok.3), (ok.2, tt))))

  header_size_lem : length header ≡ 16
  header_size_lem = layout_size big record_words (record_numbers r) holds

  pub record_size_lem : length (record_bytes big r) ≡ 16 + length r.bytes
  record_size_lem = length-append header r.bytes ∙ omega (arith, header_size_lem)

  module _ (l : List ℕ) (stands : l ≡ before ++ (record_bytes big r ++ rest)) where
    -- its words
    told : numbers_at big record_words l at ≡ record_numbers r
    told =
        ap (λ (m : List ℕ). numbers_at big record_words m at) (stands ∙ ap (◌++◌ before) (append_assoc header r.bytes rest))
        ∙ numbers_back big record_words (record_numbers r) before (r.bytes ++ rest) at 0 (omega arith) holds

    captured_is : (head_at big at l).captured ≡ length r.bytes
    captured_is = ap (λ (m : List ℕ). get_or m 2 0) told

    long : length l ≡ at + (16 + length r.bytes) + length rest
    long =
        ap length stands
        ∙ omega (arith, length-append before (record_bytes big r ++ rest), length-append (record_bytes big r) rest, record_size_lem)

    pub reads_one : next_of l (cursor_at big at) ≡ Whole (head_at big at l)
    reads_one = is_whole l (cursor_at big at) (omega (arith, long)) (omega (arith, captured_is, ok.3)) (omega (arith, captured_is, long))

    -- its bytes
    body : bytes_of l (head_at big at l) ≡ r.bytes
    body =
        let front : length (before ++ header) ≡ at + 16 = length-append before header ∙ omega (arith, header_size_lem) in
        let whole : l ≡ (before ++ header) ++ (r.bytes ++ rest) =
        stands ∙ ap (◌++◌ before) (append_assoc header r.bytes rest) ∙ sym (append_assoc before header (r.bytes ++ rest)) in
        let count : (head_at big at l).end - (head_at big at l).from ≡ length r.bytes = omega (arith, captured_is) in
        ap (λ (n : ℕ). take n (drop (at + 16) l)) count
        ∙ ap (λ (m : List ℕ). take (length r.bytes) (drop (at + 16) m)) whole
        ∙ ap (take (length r.bytes)) (drop_at (before ++ header) (r.bytes ++ rest) (at + 16) front)
        ∙ take_at r.bytes rest (length r.bytes) refl

    pub tells_one : content_in l (head_at big at l) ≡ r
    tells_one = λ i. content_of (get_or (told i) 0 0) (get_or (told i) 1 0) (get_or (told i) 3 0) (body i)

    pub ends_one : (head_at big at l).end ≡ length (before ++ record_bytes big r)
    ends_one = omega (arith, captured_is, length-append before (record_bytes big r), record_size_lem)

-- ---- records that were written, behind other bytes
module _ (big : Bool) (l : List ℕ) where
  abbrev Back : List Content → Course → Type 0
  Back records course = (course.ended ≡ End) × (map (content_in l) course.records ≡ records)

  none_left : (before : List ℕ) → l ≡ before ++ [] → next_of l (cursor_at big (length before)) ≡ End
  none_left before e = at_the_end l (cursor_at big (length before)) (omega (arith, ap length e, length-append before []))

  read_back : (turns : ℕ) (before : List ℕ) (records : List Content) → AllWritable records → l ≡ before ++ records_bytes big records
      → length (records_bytes big records) ≤ turns → Back records (in_turn turns l (cursor_at big (length before)))
  unfolding in_turn
  read_back zero before [] ok e few = (none_left before e, refl)
  read_back zero before (r ∷ records) ok e few =
      absurd (omega (arith, few, length-append (record_bytes big r) (records_bytes big records), record_size_lem big before r [] ok.0))
  read_back (suc turns) before [] ok e few =
      subst (λ x. Back [] (turn (cursor_at big (length before)) (λ c. in_turn turns l c) x)) (sym (none_left before e)) (refl, refl)
  read_back (suc turns) before (r ∷ records) ok e few =
      let rest : List ℕ = records_bytes big records in
      let size = record_size_lem big before r rest ok.0 in
      let further = read_back turns (before ++ record_bytes big r) records ok.1 (e ∙ sym (append_assoc before (record_bytes big r) rest))
      (omega (arith, few, length-append (record_bytes big r) rest, size)) in
      let moved = subst (λ n. Back records (in_turn turns l (cursor_at big n))) (sym (ends_one big before r rest ok.0 l e)) further in
      subst (λ x. Back (r ∷ records) (turn (cursor_at big (length before)) (λ c. in_turn turns l c) x))
      (sym (reads_one big before r rest ok.0 l e))
      (moved.0, λ i. tells_one big before r rest ok.0 l e i ∷ moved.1 i)

-- ---- reading what was written: "the same seconds, microseconds, original lengths and bytes"
pub record ReadsBack (big : Bool) (records : List Content) : Type 0 where
  -- it opens, in the byte order in which it was written, and its first record starts behind the header
  pub opens : opened_of (capture_bytes big records) ≡ Ok (cursor_at big 24)
  -- it is read to its end, and no record is refused
  pub ends : (course_of (capture_bytes big records) (cursor_at big 24)).ended ≡ End
  -- it tells the records that were written, in their order
  pub same : records_in (capture_bytes big records) (cursor_at big 24) ≡ records

opens_as : (big : Bool) (records : List Content) → opened_of (capture_bytes big records) ≡ Ok (cursor_at big 24)
opens_as true records = opened (capture_bytes true records) (omega arith) refl
opens_as false records = opened (capture_bytes false records) (omega arith) refl

header_size_is : (big : Bool) → length (header_bytes big) ≡ 24
header_size_is true = refl
header_size_is false = refl

pub reads_back : (big : Bool) (records : List Content) → AllWritable records → ReadsBack big records
reads_back big records ok =
    let l : List ℕ = capture_bytes big records in
    let size = length-append (header_bytes big) (records_bytes big records) in
    let all = read_back big l (length l) (header_bytes big) records ok refl (omega (arith, size)) in
    let read = subst (λ n. Back big l records (in_turn (length l) l (cursor_at big n))) (header_size_is big) all in
    record { opens = opens_as big records; ends = read.0; same = read.1 }

-- ---- writing what was read
-- all the captured bytes of a record that was read whole are there
pub bytes_there : (l : List ℕ) (cursor : Cursor) (r : Record) → next_of l cursor ≡ Whole r → length (bytes_of l r) ≡ r.captured
bytes_there l cursor r e =
    let facts = whole_record l cursor r e in
    length-take (r.end - r.from) (drop r.from l) ∙ omega (arith, length-drop r.from l)

module _ (l : List ℕ) (bytes : Bytes l) where
  -- its header
  header_again : (cursor : Cursor) → Opens l cursor → let big = cursor.big_endian in
      zone_in big l ≡ 0 → accuracy_in big l ≡ 0 → snap_length_in big l ≡ 2048 → header_bytes big ≡ take 24 l
  header_again cursor o zone accuracy snap =
      let big = cursor.big_endian in
      ap (bytes_for big header_words)
      (λ i. sym o.magic_is i ∷ (sym o.major_is i ∷ (sym o.minor_is i ∷ (sym zone i ∷ (sym accuracy i ∷ (sym snap i ∷ (sym o.link_is i ∷ [])))))))
      ∙ layout_back l bytes big header_words 0 0 (omega (arith, o.long))

  -- a record
  record_again : (cursor : Cursor) (r : Record) → next_of l cursor ≡ Whole r
      → record_bytes cursor.big_endian (content_in l r) ≡ take (16 + r.captured) (drop (r.from - 16) l)
  record_again cursor r e =
      let big = cursor.big_endian in
      let at = cursor.at in
      let t = tells l cursor (Whole r) e in
      let facts = whole_record l cursor r e in
      let long : r.end - r.from ≡ r.captured = omega arith in
      let count = bytes_there l cursor r e in
      let words : record_numbers (content_in l r) ≡ numbers_at big record_words l at =
      (λ i. (t.1 i).seconds ∷ ((t.1 i).microseconds ∷ (count i ∷ ((t.1 i).original ∷ []))))
      ∙ ap (λ (n : ℕ). (head_at big at l).seconds ∷ ((head_at big at l).microseconds ∷ (n ∷ ((head_at big at l).original ∷ [])))) (ap (λ (x : Record). x.captured) t.1) in
      let here : at + 0 ≡ at = add-zero at in
      let start : r.from - 16 ≡ at = omega arith in
      let body : r.from ≡ at + 16 = omega arith in
      ap (λ (m : List ℕ). bytes_for big record_words m ++ bytes_of l r) words
      ∙ ap (λ (m : List ℕ). m ++ bytes_of l r) (layout_back l bytes big record_words at 0 (omega arith))
      ∙ ap (λ (k : ℕ). take 16 (drop k l) ++ bytes_of l r) here
      ∙ ap (λ (k : ℕ). take 16 (drop at l) ++ take k (drop r.from l)) long
      ∙ ap (λ (k : ℕ). take 16 (drop at l) ++ take r.captured (drop k l)) body
      ∙ ap (λ (m : List ℕ). take 16 (drop at l) ++ take r.captured m) (sym (drop-drop 16 at l))
      ∙ sym (take-add 16 r.captured (drop at l))
      ∙ ap (λ (k : ℕ). take (16 + r.captured) (drop k l)) (sym start)

  -- what was read can be written
  can_be_written : (cursor : Cursor) (r : Record) → next_of l cursor ≡ Whole r → Writable (content_in l r)
  can_be_written cursor r e =
      let big = cursor.big_endian in
      let head = sym (tells l cursor (Whole r) e).1 in (
        subst (λ (h : Record). h.seconds < limit four) head (in_range l bytes big four (cursor.at + 0)),
        subst (λ (h : Record). h.microseconds < limit four) head (in_range l bytes big four (cursor.at + 4)),
        subst (λ (h : Record). h.original < limit four) head (in_range l bytes big four (cursor.at + 12)),
        omega (arith, bytes_there l cursor r e, (whole_record l cursor r e).2),
      )

  pub each_can_be_written : (turns : ℕ) (cursor : Cursor) → Each (λ r. Writable (content_in l r)) (in_turn turns l cursor).records
  unfolding in_turn
  each_can_be_written zero cursor = tt
  each_can_be_written (suc turns) cursor =
      (elim (next_of l cursor) as
      (λ x. next_of l cursor ≡ x → Each (λ r. Writable (content_in l r)) (turn cursor (λ c. in_turn turns l c) x).records) [
        | End ↦ λ e. tt
        | Cut ↦ λ e. tt
        | Long ↦ λ e. tt
        | Whole r ↦ λ e. (can_be_written cursor r e, each_can_be_written turns (moved_to r.end cursor))
      ]) refl

  -- records in turn
  records_again : (turns : ℕ) (cursor : Cursor) → let course = in_turn turns l cursor in
      records_bytes cursor.big_endian (map (content_in l) course.records) ≡ all_bytes l course.records
  unfolding in_turn
  records_again zero cursor = refl
  records_again (suc turns) cursor =
      (elim (next_of l cursor) as
      (λ x. next_of l cursor ≡ x → let course = turn cursor (λ c. in_turn turns l c) x in
      records_bytes cursor.big_endian (map (content_in l) course.records) ≡ all_bytes l course.records) [
        | End ↦ λ e. refl
        | Cut ↦ λ e. refl
        | Long ↦ λ e. refl
        | Whole r ↦ λ e. λ i. record_again cursor r e i ++ records_again turns (moved_to r.end cursor) i
      ]) refl

-- "a little-endian capture with header words zone 0, accuracy 0 and snap length 2,048, and no refused record, comes back byte for byte": in
-- either byte order, where it is written in the one in which it stands
pub comes_back : (l : List ℕ) → Bytes l → (cursor : Cursor) → opened_of l ≡ Ok cursor → let big = cursor.big_endian in
    zone_in big l ≡ 0 → accuracy_in big l ≡ 0 → snap_length_in big l ≡ 2048 → (course_of l cursor).ended ≡ End
    → capture_bytes big (records_in l cursor) ≡ l
comes_back l bytes cursor e zone accuracy snap ended =
    let o = says l cursor e in
    let c = covers l cursor (omega (arith, o.long, o.at_first)) in
    let last : drop (course_of l cursor).unread l ≡ [] = drop_of_length-le l {i = (course_of l cursor).unread} (omega (arith, c.none_left ended)) in
    let rest : all_bytes l (course_of l cursor).records ≡ drop 24 l =
    sym (append-nil (all_bytes l (course_of l cursor).records))
    ∙ ap (◌++◌ (all_bytes l (course_of l cursor).records)) (sym last)
    ∙ c.all
    ∙ ap (λ (k : ℕ). drop k l) o.at_first in
    (λ i. header_again l bytes cursor o zone accuracy snap i ++ records_again l bytes (length l) cursor i)
    ∙ ap (◌++◌ (take 24 l)) rest
    ∙ take-append-drop 24 l

-- of each record's content, and of the list of them
all_in_list : (l : List ℕ) (records : List Record) → Each (λ r. Writable (content_in l r)) records → AllWritable (map (content_in l) records)
all_in_list l [] each = tt
all_in_list l (r ∷ records) each = (each.0, all_in_list l records each.1)

-- ---- what the writer's calls write, in turn: the capture
module _ (at : ℕ) (room : List ℕ) where
  -- so many bytes of it are written
  abbrev written : List ℕ → Put
  written done = put_of (Ok (at + length done)) (stored done at room)

  next_written : (done : List ℕ) (r : Content) → Writable r → at + length (done ++ record_bytes false r) ≤ length room
      → next_put r (written done).answer (written done).room ≡ written (done ++ record_bytes false r)
  next_written done r ok fits =
      let bytes : List ℕ = record_bytes false r in
      let both = length-append done bytes in
      let end : at + length done + length bytes ≡ at + length (done ++ bytes) = omega (arith, both) in
      few_enough r (at + length done) (stored done at room) ok.3
      ∙ have_room bytes (at + length done) (stored done at room) (omega (arith, fits, both, stored_length done at room))
      ∙ (λ i. put_of (Ok (end i)) (stored_then done bytes at room fits i))

  records_written : (records : List Content) (done : List ℕ) → AllWritable records → at + length (done ++ records_bytes false records) ≤ length room
      → records_put records (written done) ≡ written (done ++ records_bytes false records)
  records_written [] done ok fits = ap written (sym (append-nil done))
  records_written (r ∷ records) done ok fits =
      let rest : List ℕ = records_bytes false records in
      let all : (done ++ record_bytes false r) ++ rest ≡ done ++ (record_bytes false r ++ rest) = append_assoc done (record_bytes false r) rest in
      ap (records_put records) (next_written done r ok.0 (omega (arith, fits, ap length all, length-append (done ++ record_bytes false r) rest)))
      ∙ records_written records (done ++ record_bytes false r) ok.1 (omega (arith, fits, ap length all))
      ∙ ap written all

  -- for every list of records that fit: the calls answer the place behind the capture, its bytes stand in the room, and all others are as
  -- they were
  pub all_written : (records : List Content) → AllWritable records → at + length (capture_bytes false records) ≤ length room
      → capture_put records at room ≡ written (capture_bytes false records)
  all_written records ok fits =
      ap (records_put records)
      (the_header at room ∙ have_room (header_bytes false) at room (omega (arith, fits, length-append (header_bytes false) (records_bytes false records))))
      ∙ records_written records (header_bytes false) ok fits

  -- so what stands there reads back
  pub stands_there : (records : List Content) → AllWritable records → at + length (capture_bytes false records) ≤ length room
      → take (length (capture_bytes false records)) (drop at (capture_put records at room).room) ≡ capture_bytes false records
  stands_there records ok fits =
      let bytes : List ℕ = capture_bytes false records in
      ap (λ (p : Put). take (length bytes) (drop at p.room)) (all_written records ok fits)
      ∙ ap (λ (l : List ℕ). take (length bytes) (drop at l)) (all_stored bytes at room fits)
      ∙ ap (take (length bytes)) (drop_at (take at room) (bytes ++ drop (at + length bytes) room) at (length-take at room ∙ omega (arith, fits)))
      ∙ take_at bytes (drop (at + length bytes) room) (length bytes) refl

  -- and reading there gives the records back
  pub read_there : (records : List Content) → AllWritable records → at + length (capture_bytes false records) ≤ length room
      → let part = take (length (capture_bytes false records)) (drop at (capture_put records at room).room) in
      (opened_of part ≡ Ok (cursor_at false 24)) × ((course_of part (cursor_at false 24)).ended ≡ End) × (records_in part (cursor_at false 24) ≡ records)
  read_there records ok fits =
      let back = reads_back false records ok in
      subst (λ (l : List ℕ). (opened_of l ≡ Ok (cursor_at false 24)) × ((course_of l (cursor_at false 24)).ended ≡ End) × (records_in l (cursor_at false 24) ≡ records))
      (sym (stands_there records ok fits)) (back.opens, back.ends, back.same)

  -- what was read of a little-endian capture with the writer's header words, and no refused record, is written as it stood
  pub written_back : (l : List ℕ) → Bytes l → opened_of l ≡ Ok (cursor_at false 24)
      → zone_in false l ≡ 0 → accuracy_in false l ≡ 0 → snap_length_in false l ≡ 2048 → (course_of l (cursor_at false 24)).ended ≡ End
      → at + length l ≤ length room
      → capture_put (records_in l (cursor_at false 24)) at room ≡ put_of (Ok (at + length l)) (stored l at room)
  written_back l bytes e zone accuracy snap ended fits =
      let same = comes_back l bytes (cursor_at false 24) e zone accuracy snap ended in
      all_written (records_in l (cursor_at false 24)) (all_in_list l (course_of l (cursor_at false 24)).records (each_can_be_written l bytes (length l) (cursor_at false 24)))
      (omega (arith, fits, ap length same))
      ∙ ap written same
