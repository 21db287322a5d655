-- Words of two or four bytes that stand side by side: one layout serves who reads them and who writes them, in either byte order.
-- Assumes nothing.
use Rattle.std.specs.Prelude.{Bool, List, [], ◌∷◌, ◌++◌, ℕ, ◌+◌, ◌<◌, get_or}
use Rattle.words.specs.Words.{two_in, four_in, two_bytes, four_bytes}

pub data Word : Type 0 where
  two : Word
  four : Word

-- how many bytes a word has
abbrev pub size : Word → ℕ
size two = 2
size four = 4

-- the numbers that a word can hold are those below this
abbrev pub limit : Word → ℕ
limit two = 65536
limit four = 4294967296

-- the number in a word that stands at a place, and the word's bytes for a number
abbrev pub number_in : Bool → Word → List ℕ → ℕ → ℕ
number_in big two l at = two_in big l at
number_in big four l at = four_in big l at

abbrev pub bytes_in : Bool → Word → ℕ → List ℕ
bytes_in big two n = two_bytes big n
bytes_in big four n = four_bytes big n

-- ---- a layout: words side by side
-- how many bytes they have
abbrev pub sizes : List Word → ℕ
sizes [] = 0
sizes (w ∷ words) = size w + sizes words

-- the numbers in the words of a layout that starts at a place, of which so many bytes are past
abbrev pub numbers_from : Bool → List Word → List ℕ → ℕ → ℕ → List ℕ
numbers_from big [] l at past = []
numbers_from big (w ∷ words) l at past = number_in big w l (at + past) ∷ numbers_from big words l at (past + size w)

abbrev pub numbers_at : Bool → List Word → List ℕ → ℕ → List ℕ
numbers_at big words l at = numbers_from big words l at 0

-- the bytes of a layout whose words hold these numbers, as far as both go
abbrev pub bytes_for : Bool → List Word → List ℕ → List ℕ
bytes_for big [] numbers = []
bytes_for big (w ∷ words) [] = []
bytes_for big (w ∷ words) (n ∷ numbers) = bytes_in big w n ++ bytes_for big words numbers

-- as many numbers as words, and each word can hold its number
abbrev pub Holds : List Word → List ℕ → Type 0
Holds [] [] = Unit {0}
Holds [] (n ∷ numbers) = ⊥
Holds (w ∷ words) [] = ⊥
Holds (w ∷ words) (n ∷ numbers) = (n < limit w) × Holds words numbers

-- a list of bytes
abbrev pub Bytes : List ℕ → Type 0
Bytes l = (k : ℕ) → get_or l k 0 < 256
