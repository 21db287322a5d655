-- `explanations::put_filled` meets its contract: what is left of the text is put after what was.
-- Assumes nothing.
use mathlib.Core.Path.{◌∙◌}
use Rattle.lines.specs.Rooms.{room_in}
use Rattle.explanations.proofs.Filled.{fill_next, fill_end}
use Rattle.explanations.proofs.put_filled.Goals as goal

pub loop-byte-preserved : goal.loop-byte-preserved
loop-byte-preserved c =
    let l = c.loop-byte in (
      c.put_letter.ensures.same ∙ l.invariant.0,
      fill_next c.args.report c.args.text.now l.marked l.byte-index (room_in l.room) c.loop-byte-test.true c.put_letter.ensures.put
          ∙ l.invariant.1,
    )

pub returns-clause-put : goal.returns-clause-put
returns-clause-put c =
    let l = c.loop-byte in
    fill_end c.args.report c.args.text.now l.marked l.byte-index (room_in l.room) c.loop-byte-test.false ∙ l.invariant.1
