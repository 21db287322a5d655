-- Document 01, "The printing program": how what it prints ends. The program that writes a capture says the same on standard error.
-- Assumes nothing.
use Rattle.std.specs.Prelude.{ℕ, ◌+◌, ◌%◌, ◌^◌, Bool, cond, List, ◌++◌, Err}
use Rattle.refused.specs.declared.Refusal.TheVariants.{Record}
use Rattle.lines.specs.Lines.{refused_line, line, last_line}

-- records and refusals are counted in 64 bits
abbrev pub one_more : ℕ → ℕ
one_more number = (number + 1) % 2 ^ 64

-- the last line, and before it that of a record which is refused by 8, cut off or too long: it has its own number, and was not read whole
abbrev pub ending : Bool → ℕ → ℕ → List ℕ
ending refused records refusals =
    cond refused
    (line (one_more records) (Err Record) ++ last_line records (one_more refusals))
    (last_line records refusals)

-- "Refusal 7 prints as record 0."
abbrev pub header_refused : ℕ → List ℕ
header_refused number = refused_line 0 number ++ last_line 0 1
