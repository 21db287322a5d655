-- Document 01, "The printing program": its Ethernet frames. "neither reaches the gateway", so tables and clock stay as they are.
-- Assumes nothing.
use Rattle.std.specs.Prelude.{cond, List, ℕ, eqb, ltb, length, drop, Result, Ok, Err}
use Rattle.refused.specs.declared.Refusal.{Refusal}
use Rattle.refused.specs.declared.Refusal.TheVariants as refusal
use Rattle.words.specs.Words.{two_at}
use Rattle.settings.specs.declared.Limits.{Limits}
use Rattle.rulings.specs.declared.answers.Answer.{Answer}
use Rattle.rulings.specs.declared.answers.Answer.TheVariants.{NotOurs}
use Rattle.rulings.specs.Rules.{Rules}
use Rattle.reasons.specs.declared.Explanation.{Explanation}
use Rattle.reasons.specs.declared.Explanation.TheVariants as explanation
use Rattle.frames.specs.declared.Inside.{Inside}
use Rattle.frames.specs.declared.Inside.TheVariants.{Short, Packet, Other}
use Rattle.gateway.specs.Calls.{State, After, after_call, judged}
use Rattle.gateway.specs.Why.{why_of}

-- the EtherType is the two bytes after the two addresses of six bytes each, and what the frame carries follows it
abbrev pub ether_type : List ℕ → ℕ
ether_type frame = two_at frame 12

abbrev pub carried : List ℕ → List ℕ
carried frame = drop 14 frame

-- "An Ethernet frame under 14 bytes", "EtherType other than 0x0800", or neither
unfoldable pub inside_of : List ℕ → Inside
inside_of frame = cond (ltb (length frame) 14) Short (cond (eqb (ether_type frame) 0x0800) Packet Other)

-- "An Ethernet frame under 14 bytes is refused by 5; EtherType other than 0x0800 prints verdict 0"
abbrev pub by_inside : Inside → State → After (Result Answer Refusal) → After (Result Answer Refusal)
by_inside Short before after = after_call (Err refusal.Short) before
by_inside Packet before after = after
by_inside Other before after = after_call (Ok NotOurs) before

unfoldable pub frame_judged : Rules → Limits → List ℕ → List ℕ → ℕ → List ℕ → State → After (Result Answer Refusal)
frame_judged rules limits cell plant time frame before =
    by_inside (inside_of frame) before (judged rules limits cell plant time (carried frame) before)

-- document 02, K4: it "is refused exactly as the packet would be", a frame under 14 bytes by 5; and another EtherType's verdict is 0, "the
-- verdict alone"
abbrev pub why_inside : Inside → Result Explanation Refusal → Result Explanation Refusal
why_inside Short why = Err refusal.Short
why_inside Packet why = why
why_inside Other why = Ok explanation.NotOurs

unfoldable pub frame_explained : Rules → Limits → List ℕ → List ℕ → ℕ → List ℕ → State → Result Explanation Refusal
frame_explained rules limits cell plant time frame before =
    why_inside (inside_of frame) (why_of rules limits cell plant time (carried frame) before)
