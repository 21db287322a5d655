-- Document 01, "Refusal numbers", with 9 of document 02, K1. "The answer of a refusal is its number alone."
-- Assumes nothing.
-- answer_unless: what a call answers that may be refused
-- refusal_in: the number that an answer tells, or 0
use Rattle.std.specs.Prelude.{ℕ, Option, Some, None, Result, Ok, Err}
use Rattle.refused.specs.declared.Refusal.{Refusal}
use Rattle.refused.specs.declared.Refusal.TheVariants.{Settings, Sizes, Lists, Time, Short, Header, Capture, Record, Room}

abbrev pub refusal_number : Refusal → ℕ
refusal_number Settings = 1
refusal_number Sizes = 2
refusal_number Lists = 3
refusal_number Time = 4
refusal_number Short = 5
refusal_number Header = 6
refusal_number Capture = 7
refusal_number Record = 8
refusal_number Room = 9

-- the number of a refusal where there is one, and 0 where there is none
abbrev pub number_or_zero : Option Refusal → ℕ
number_or_zero None = 0
number_or_zero (Some refusal) = refusal_number refusal

-- a refusal where there is one, and else an answer
abbrev pub answer_unless : {A : Type 0} → Option Refusal → A → Result A Refusal
answer_unless None answer = Ok answer
answer_unless (Some refusal) answer = Err refusal

-- the refusal that stands in an answer
abbrev pub refusal_of : {A : Type 0} → Result A Refusal → Option Refusal
refusal_of (Ok answer) = None
refusal_of (Err refusal) = Some refusal

-- its number, and 0 stands for a call that is not refused
abbrev pub refusal_in : {A : Type 0} → Result A Refusal → ℕ
refusal_in (Ok answer) = 0
refusal_in (Err refusal) = refusal_number refusal

-- the first of two refusals
abbrev pub refusal_or : Option Refusal → Option Refusal → Option Refusal
refusal_or None other = other
refusal_or (Some refusal) other = Some refusal
