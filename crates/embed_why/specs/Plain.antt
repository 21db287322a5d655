-- Why a packet was dropped, as plain numbers, for programs in C and Rust. A number that an answer does not have is 0.
-- Assumes nothing.
use Rattle.std.specs.Prelude.{false, ℕ, pos, Result, Ok, Err}
use Rattle.refused.specs.declared.Refusal.{Refusal}
use Rattle.refused.specs.Refused.{refusal_number}
use Rattle.packet.specs.Kinds.{kind_number}
use Rattle.sides.specs.declared.Entry.{Entry}
use Rattle.verdicts.specs.Verdicts.{number_of}
use Rattle.reasons.specs.declared.Drop.{Drop}
use Rattle.reasons.specs.declared.Explanation.{Explanation}
use Rattle.reasons.specs.declared.Explanation.TheVariants as why
use Rattle.embed_why.specs.declared.plain.PlainReason.{PlainReason}

abbrev pub no_entry : Entry
no_entry = record { number = 0; address = 0; prefix = 0 }

-- "Verdicts 0 to 4 get the verdict alone", and a refusal its number alone
abbrev pub verdict_alone : ℕ → ℕ → PlainReason
verdict_alone refusal verdict =
    record {
      refusal = refusal;
      verdict = verdict;
      kind = 0;
      plant_mark = false;
      cell_mark = false;
      count = pos 0;
      threshold = 0;
      by_count = false;
      by_plant_mark = false;
      by_cell_mark = false;
      by_kind = false;
      cell_entry = no_entry;
      plant_entry = no_entry;
    }

abbrev pub plain_drop : Drop → PlainReason
plain_drop drop =
    record {
      refusal = 0;
      verdict = number_of drop.verdict;
      kind = kind_number drop.header.transport.kind;
      plant_mark = drop.marks.plant;
      cell_mark = drop.marks.cell;
      count = drop.count;
      threshold = drop.threshold;
      by_count = drop.reported.count;
      by_plant_mark = drop.reported.plant_mark;
      by_cell_mark = drop.reported.cell_mark;
      by_kind = drop.reported.kind;
      cell_entry = drop.cell_entry;
      plant_entry = drop.plant_entry;
    }

abbrev pub plain_reason : Result Explanation Refusal → PlainReason
plain_reason (Err refusal) = verdict_alone (refusal_number refusal) 0
plain_reason (Ok why.NotOurs) = verdict_alone 0 0
plain_reason (Ok (why.Forwarded verdict)) = verdict_alone 0 (number_of verdict)
plain_reason (Ok (why.Dropped drop)) = plain_drop drop
