-- What is told of a record that is refused goes by the refusal's number.
-- Assumes nothing.
use mathlib.Core.Path.{◌≡◌, refl}
use Prim.Native.Nat.{ℕ}
use Rattle.std.specs.Prelude.{Option, None, Some, Err}
use Rattle.refused.specs.declared.Refusal.{Refusal}
use Rattle.refused.specs.Refused.{refusal_number}
use Rattle.explanations.specs.Explanations.{refused_asked, asked_text}

pub told_refused : (wanted : Option ℕ) (number seconds : ℕ) (refusal : Refusal)
    → refused_asked wanted number (refusal_number refusal) ≡ asked_text wanted number seconds (Some (Err refusal))
told_refused None number seconds refusal = refl
told_refused (Some wanted) number seconds refusal = refl
