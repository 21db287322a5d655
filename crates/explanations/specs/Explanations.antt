-- Document 02, K4: what the program puts out for a record of which it is asked why. docs/WHY.md says it to operators.
-- Assumes nothing.
use Rattle.std.specs.Prelude.{Bool, true, false, cond, List, [], ◌++◌, ℕ, eqb, Option, None, Some, Result, Ok, Err}
use Prim.Native.String.{String}
use Rattle.refused.specs.declared.Refusal.{Refusal}
use Rattle.refused.specs.Refused.{refusal_number}
use Rattle.verdicts.specs.declared.Verdict.{Verdict}
use Rattle.verdicts.specs.declared.Verdict.TheVariants.{Uncounted, CreditOfOne, CreditOfTwo, FreshContact, Hygiene, Blocked}
use Rattle.reasons.specs.declared.Explanation.{Explanation}
use Rattle.reasons.specs.declared.Explanation.TheVariants as why
use Rattle.lines.specs.Letters.{text}
use Rattle.lines.specs.Text.{decimal}
use Rattle.explanations.specs.declared.Report.{Report}
use Rattle.explanations.specs.Values.{is_blocking, filled}

-- ---- a packet that was dropped
-- a text about it
abbrev pub said : Report → String → List ℕ
said report letters = filled report false (text letters)

-- a text for each fact that is reported, in their order
abbrev pub of_facts : Report → List ℕ → List ℕ → List ℕ → List ℕ → List ℕ
of_facts report count plant cell kind =
    cond report.drop.reported.count (filled report false count) []
    ++ (cond report.drop.reported.plant_mark (filled report false plant) []
    ++ (cond report.drop.reported.cell_mark (filled report false cell) []
    ++ cond report.drop.reported.kind (filled report false kind) []))

-- the first line, for machines: thirteen words, and one for each fact that is reported
abbrev pub first_line : Report → List ℕ
first_line report =
    said report "%n %v %c %t %s %a %p %b %q %i %k %e %f"
    ++ (of_facts report (text " count") (text " plant-mark") (text " cell-mark") (text " kind") ++ text "\n")

-- who sent what to whom, and which entries made it ours
abbrev pub who_and_whom : Report → List ℕ
who_and_whom report =
    said report "  %a%P sent %K to %b%Q at second %s.\n"
    ++ said report "  It is ours by entry %e of the cell list, %E, and entry %f of the plant list, %F.\n"

-- the verdict, and the count against T
abbrev pub by_plant_mark : Report → Bool → List ℕ
by_plant_mark report true =
    said report "  The plant-to-cell mark of this connection is set, but from a blocked machine UDP and openings do not go through even so.\n"
by_plant_mark report false =
    said report "  From a blocked machine only answers to the plant go through, and the plant-to-cell mark of this connection is not set.\n"

abbrev pub situation : Report → Bool → List ℕ
situation report true =
    said report "  It was dropped as blocked: the count of %a is %c, and T is %t.\n" ++ by_plant_mark report report.drop.marks.plant
situation report false =
    said report "  It was dropped as hygiene, not as blocked: the count of %a is %c, and T is %t.\n"
    ++ said report "  It answers or closes a connection, and this connection has neither mark.\n"

-- what would have let it pass
abbrev pub ways_through : Report → List ℕ
ways_through report =
    said report "  Any one of these alone would have let it through:\n"
    ++ of_facts report
    (text "  - the count: below %t\n")
    (text "  - the plant-to-cell mark: set (the plant has spoken on this connection lately, other than to close it)\n")
    (text "  - the cell-to-plant mark: set (the cell was let through on this connection lately, other than to close it)\n")
    (text "  - the kind: %w\n")

abbrev pub drop_text : Report → List ℕ
drop_text report = first_line report ++ (who_and_whom report ++ (situation report (is_blocking report.drop.verdict) ++ ways_through report))

-- ---- any other, which is asked for by its number: "Verdicts 0 to 4 get the verdict alone."
abbrev pub forwarded_text : Verdict → List ℕ
forwarded_text Uncounted = text " 1\n  It was forwarded, and nothing was counted (verdict 1).\n"
forwarded_text CreditOfOne = text " 2\n  It was forwarded, with a credit of one (verdict 2).\n"
forwarded_text CreditOfTwo = text " 3\n  It was forwarded, with a credit of two (verdict 3).\n"
forwarded_text FreshContact = text " 4\n  It was forwarded as a fresh contact (verdict 4).\n"
forwarded_text Hygiene = text " 5\n"
forwarded_text Blocked = text " 6\n"

abbrev pub not_ours_text : List ℕ
not_ours_text = text " 0\n  It was forwarded: it is no IPv4 packet between the cell and the plant (verdict 0).\n"

-- a record of the program is refused by 4, 5 or 6 (`by_four_or_header`, replay/proofs/SetUp)
unfoldable pub refused_words : ℕ → List ℕ
refused_words number =
    cond (eqb number 4) (text "\n  It was refused, and not judged: its time is before the clock (refusal 4).\n")
    (cond (eqb number 5) (text "\n  It was refused, and not judged: its header bytes end too soon (refusal 5).\n")
    (cond (eqb number 6) (text "\n  It was refused, and not judged: it has no IPv4 header that can be read (refusal 6).\n")
    (text "\n  It was refused, and not judged.\n")))

abbrev pub refused_text : ℕ → List ℕ
refused_text number = text " R " ++ (decimal number ++ refused_words number)

-- of a record that is refused, by its number and the refusal's, whatever that is: where it is the one that is asked for by its number
abbrev pub refused_asked : Option ℕ → ℕ → ℕ → List ℕ
refused_asked None number refusal = []
refused_asked (Some wanted) number refusal = cond (eqb number wanted) (decimal number ++ refused_text refusal) []

-- ---- of a record, by its number and its second
abbrev pub explanation_text : ℕ → ℕ → Result Explanation Refusal → List ℕ
explanation_text number seconds (Err refusal) = decimal number ++ refused_text (refusal_number refusal)
explanation_text number seconds (Ok why.NotOurs) = decimal number ++ not_ours_text
explanation_text number seconds (Ok (why.Forwarded verdict)) = decimal number ++ forwarded_text verdict
explanation_text number seconds (Ok (why.Dropped drop)) = drop_text (record { number = number; seconds = seconds; drop = drop })

abbrev pub is_drop : Result Explanation Refusal → Bool
is_drop (Err refusal) = false
is_drop (Ok why.NotOurs) = false
is_drop (Ok (why.Forwarded verdict)) = false
is_drop (Ok (why.Dropped drop)) = true

-- which records are told of: each that was dropped, or the one that is asked for by its number, from 1
abbrev pub is_told : Option ℕ → ℕ → Result Explanation Refusal → Bool
is_told None number explanation = is_drop explanation
is_told (Some wanted) number explanation = eqb number wanted

abbrev pub asked_text : Option ℕ → ℕ → ℕ → Option (Result Explanation Refusal) → List ℕ
asked_text wanted number seconds None = []
asked_text wanted number seconds (Some explanation) = cond (is_told wanted number explanation) (explanation_text number seconds explanation) []
