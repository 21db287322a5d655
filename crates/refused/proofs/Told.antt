-- What an answer tells of a refusal.
-- Assumes nothing.
use mathlib.Core.Path.{◌≡◌, refl, sym, ap, ◌∙◌}
use Rattle.std.specs.Prelude.{Option, Some, None, Result, Ok, Err}
use Rattle.refused.specs.declared.Refusal.{Refusal}
use Rattle.refused.specs.Refused.{number_or_zero, answer_unless, refusal_of, refusal_in}

-- the refusal that is told is that of the tests
pub told : {A : Type 0} (refusal : Option Refusal) (answer : A) → refusal_of (answer_unless refusal answer) ≡ refusal
told None answer = refl
told (Some refusal) answer = refl

-- so what is not refused passed all tests
pub passed_tests : {A : Type 0} (refusal : Option Refusal) (answer given : A) (result : Result A Refusal) → result ≡ answer_unless refusal answer
    → result ≡ Ok given → refusal ≡ None
passed_tests refusal answer given result e ok = sym (told refusal answer) ∙ ap refusal_of (sym e ∙ ok)

-- and its number is the one that is told
pub number_told : {A : Type 0} (result : Result A Refusal) → refusal_in result ≡ number_or_zero (refusal_of result)
number_told (Ok answer) = refl
number_told (Err refusal) = refl
