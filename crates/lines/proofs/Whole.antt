-- A line for which there is room is put whole, and how long a line may be: who puts one can leave room for any.
-- Assumes nothing.
use mathlib.Core.Bool.{Bool, true, false, cond}
use mathlib.Core.List.{List, [], ◌∷◌, ◌++◌}
use mathlib.Core.Path.{◌≡◌, refl, ap, ◌∙◌}
use Prim.Native.Nat.{ℕ, zero, suc, ◌+◌, ◌/◌, ◌%◌, ◌^◌, ◌≤◌, ◌<◌}
use native.Mathlib.Omega.{arith}
use native.Mathlib.Nat.{pow-zero, pow-suc}
use lib.Dec.{ltb}
use lib.IntN.{ℤ, pos, negsuc, nat_abs}
use lib.ListN.{length, take, drop, set, length-append, length-set}
use lib.Seq.{sets, sets-eq}
use borrow.Author.Tests.{lt-ltb, ltb-false}
use Rattle.std.specs.Prelude.{None, Some, Result, Ok, Err}
use Rattle.refused.specs.declared.Refusal.{Refusal}
use Rattle.refused.specs.declared.Refusal.TheVariants.{Settings, Sizes, Lists, Time, Short, Header, Capture, Record, Room}
use Rattle.refused.specs.Refused.{refusal_number}
use Rattle.rulings.specs.declared.answers.Answer.{Answer}
use Rattle.rulings.specs.declared.answers.Answer.TheVariants.{NotOurs, Judged}
use Rattle.verdicts.specs.declared.Verdict.{Verdict}
use Rattle.verdicts.specs.declared.Verdict.TheVariants.{Uncounted, CreditOfOne, CreditOfTwo, FreshContact, Hygiene, Blocked}
use Rattle.verdicts.specs.Verdicts.{number_of}
use Rattle.lines.specs.Text.{dot, space, digit, digits_in, decimal, signed, dotted, or_dash}
use Rattle.lines.specs.Lines.{newline, refusal_text, answer_text, refused_line, line, last_line}
use Rattle.lines.specs.Room.{room_of, put_byte, put}

-- ---- a text for which there is room is put whole
stored : (text : List ℕ) (at : ℕ) (bytes : List ℕ) → at + length text ≤ length bytes
    → put text (room_of at bytes) ≡ room_of (at + length text) (sets bytes at text)
unfolding put put_byte
stored [] at bytes h = let nothing : at + 0 ≡ at = omega arith in rw nothing
stored (byte ∷ text) at bytes h =
    let next : at + 1 ≡ suc at = omega arith in
    let all : suc at + length text ≡ at + suc (length text) = omega arith in
    let rest : suc at + length text ≤ length (set bytes at byte) = omega (arith, h, length-set bytes at byte) in
    rw (lt-ltb at (length bytes) (omega (arith, h)), next, stored text (suc at) (set bytes at byte) rest, all)

pub whole : (text : List ℕ) (at : ℕ) (bytes : List ℕ) → at + length text ≤ length bytes
    → put text (room_of at bytes) ≡ room_of (at + length text) (take at bytes ++ text ++ drop (at + length text) bytes)
whole text at bytes h = stored text at bytes h ∙ ap (room_of (at + length text)) (sets-eq text bytes at h)

-- ---- how many digits a number has
step : (steps k n : ℕ) → (10 ≤ n → length (digits_in steps (n / 10)) ≤ k) → length (digits_in (suc steps) n) ≤ suc k
unfolding digits_in
step steps k n tenth = go (ltb n 10) refl
  where
    go : (q : Bool) → ltb n 10 ≡ q → length (cond q (digit n ∷ []) (digits_in steps (n / 10) ++ (digit (n % 10) ∷ []))) ≤ suc k
    go true e = omega arith
    go false e =
        omega (arith, tenth (ltb-false n 10 e), length-append (digits_in steps (n / 10)) (digit (n % 10) ∷ []))

few : (steps k n : ℕ) → n < 10 ^ suc k → length (digits_in steps n) ≤ suc k
unfolding digits_in
few zero k n h = omega arith
few (suc steps) zero n h = step steps zero n (λ large. absurd (omega (arith, h, large, pow-suc 10 0, pow-zero 10)))
few (suc steps) (suc k) n h = step steps (suc k) n (λ large. few steps k (n / 10) (omega (arith, h, pow-suc 10 (suc k))))

-- ---- how long a line is
-- what the types of an answer's parts say of them
abbrev pub InRange : Result Answer Refusal → Type 0
InRange (Err refusal) = Unit {0}
InRange (Ok NotOurs) = Unit {0}
InRange (Ok (Judged verdict count None)) = nat_abs count ≤ 2 ^ 15
InRange (Ok (Judged verdict count (Some address))) = (nat_abs count ≤ 2 ^ 15) × (address < 2 ^ 32)

pub signed_short : (count : ℤ) → nat_abs count ≤ 2 ^ 15 → length (signed count) ≤ 6
signed_short (pos n) h = omega (arith, few n 4 n (omega (arith, h)))
signed_short (negsuc n) h = omega (arith, few (suc n) 4 (suc n) (omega (arith, h)))

pub byte_short : (n : ℕ) → n < 256 → length (decimal n) ≤ 3
byte_short n h = few n 2 n (omega (arith, h))

pub dotted_short : (address : ℕ) → address < 2 ^ 32 → length (dotted address) ≤ 15
dotted_short address h =
    let a = byte_short (address / 16777216) (omega (arith, h)) in
    let b = byte_short (address / 65536 % 256) (omega arith) in
    let c = byte_short (address / 256 % 256) (omega arith) in
    let d = byte_short (address % 256) (omega arith) in
    omega (
      arith,
      a,
      b,
      c,
      d,
      length-append (decimal (address / 16777216)) (dot ∷ (decimal (address / 65536 % 256) ++ (dot ∷ (decimal (address / 256 % 256) ++ (dot ∷ decimal (address % 256)))))),
      length-append (decimal (address / 65536 % 256)) (dot ∷ (decimal (address / 256 % 256) ++ (dot ∷ decimal (address % 256)))),
      length-append (decimal (address / 256 % 256)) (dot ∷ decimal (address % 256)),
    )

pub one_digit : (verdict : Verdict) → length (decimal (number_of verdict)) ≤ 1
one_digit verdict = few (number_of verdict) 0 (number_of verdict) (small verdict)
  where
    small : (v : Verdict) → number_of v < 10
    small Uncounted = omega arith
    small CreditOfOne = omega arith
    small CreditOfTwo = omega arith
    small FreshContact = omega arith
    small Hygiene = omega arith
    small Blocked = omega arith

-- a verdict, its count and what it replaced
judged_short : (verdict : Verdict) (count : ℤ) (replaced : List ℕ) → nat_abs count ≤ 2 ^ 15 → length replaced ≤ 15
    → length (decimal (number_of verdict) ++ (space ∷ (signed count ++ (space ∷ replaced)))) ≤ 24
judged_short verdict count replaced h g =
    omega (
      arith,
      g,
      one_digit verdict,
      signed_short count h,
      length-append (decimal (number_of verdict)) (space ∷ (signed count ++ (space ∷ replaced))),
      length-append (signed count) (space ∷ replaced),
    )

-- a refusal's number has one digit
pub refusal_small : (refusal : Refusal) → refusal_number refusal < 10
refusal_small Settings = omega arith
refusal_small Sizes = omega arith
refusal_small Lists = omega arith
refusal_small Time = omega arith
refusal_small Short = omega arith
refusal_small Header = omega arith
refusal_small Capture = omega arith
refusal_small Record = omega arith
refusal_small Room = omega arith

pub refusal_digit : (refusal : Refusal) → length (decimal (refusal_number refusal)) ≤ 1
refusal_digit refusal = few (refusal_number refusal) 0 (refusal_number refusal) (refusal_small refusal)

answer_short : (answer : Result Answer Refusal) → InRange answer → length (answer_text answer) ≤ 24
unfolding digits_in
answer_short (Err refusal) h = omega (arith, refusal_digit refusal)
answer_short (Ok NotOurs) h = omega arith
answer_short (Ok (Judged verdict count None)) h = judged_short verdict count (or_dash dotted None) h (omega arith)
answer_short (Ok (Judged verdict count (Some address))) h =
    judged_short verdict count (dotted address) h.0 (dotted_short address h.1)

pub long_number : (n : ℕ) → n < 2 ^ 64 → length (decimal n) ≤ 20
long_number n h = few n 19 n (omega (arith, h))

-- every line has room in 46 bytes
pub line_short : (number : ℕ) (answer : Result Answer Refusal) → number < 2 ^ 64 → InRange answer → length (line number answer) ≤ 46
line_short number answer h g =
    omega (
      arith,
      long_number number h,
      answer_short answer g,
      length-append (decimal number) (space ∷ (answer_text answer ++ (newline ∷ []))),
      length-append (answer_text answer) (newline ∷ []),
    )

-- and so has that of a record that is refused by any number of a byte
pub refused_line_short : (number refusal : ℕ) → number < 2 ^ 64 → refusal < 2 ^ 8 → length (refused_line number refusal) ≤ 46
refused_line_short number refusal h g =
    omega (
      arith,
      long_number number h,
      byte_short refusal (omega (arith, g)),
      length-append (decimal number) (space ∷ (refusal_text refusal ++ (newline ∷ []))),
      length-append (refusal_text refusal) (newline ∷ []),
    )

pub last_line_short : (records refusals : ℕ) → records < 2 ^ 64 → refusals < 2 ^ 64 → length (last_line records refusals) ≤ 46
last_line_short records refusals h g =
    omega (
      arith,
      long_number records h,
      long_number refusals g,
      length-append (decimal records) (space ∷ (decimal refusals ++ (newline ∷ []))),
      length-append (decimal refusals) (newline ∷ []),
    )
