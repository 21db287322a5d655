-- `capture::fill_record` meets its contract: its words stand side by side, and then the captured bytes.
-- Assumes nothing.
use mathlib.Core.Bool.{false}
use mathlib.Core.List.{List, [], ◌∷◌, ◌++◌, append-nil}
use mathlib.Core.Path.{ap, ◌∙◌}
use Prim.Native.Nat.{ℕ}
use native.Mathlib.Omega.{arith}
use lib.ListN.{length, length-append}
use Rattle.words.specs.Words.{four_bytes, stored}
use Rattle.words.specs.Layouts.{bytes_for}
use Rattle.words.proofs.Words.{stored_in_turn}
use Rattle.capture.specs.Format.{record_words, record_numbers, content_of}
use Rattle.capture.proofs.fill_record.Goals as goal

pub returns : goal.returns
returns c =
    c.store.ensures
    ∙ ap (stored _ _) (c.store_four-4.ensures
    ∙ ap (stored _ _) (c.store_four-3.ensures
    ∙ ap (stored _ _) (c.store_four-2.ensures
    ∙ ap (stored _ _) c.store_four.ensures)))
    ∙ stored_in_turn
    (four_bytes false c.args.seconds
    ∷ (four_bytes false c.args.microseconds
    ∷ (four_bytes false (length c.args.source.now) ∷ (four_bytes false c.args.original ∷ (c.args.source.now ∷ [])))))
    0 c.args.room.now (omega (arith, c.requires.1, length-append c.args.source.now []))
    ∙ ap (λ (b : List ℕ). stored (bytes_for false record_words (record_numbers (content_of c.args.seconds c.args.microseconds c.args.original c.args.source.now)) ++ b) 0 c.args.room.now)
    (append-nil c.args.source.now)
