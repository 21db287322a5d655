-- Demand 2: "The address permutation and its inverse undo each other on every 32-bit word", for every eight keys; once over the round.
-- Assumes nothing.
use Rattle.std.proofs.Common.{◌≡◌, ℕ, zero, suc, ◌+◌, ◌-◌, ◌%◌, ◌^◌, ◌<◌, ◌≤◌, List, refl, arith}
use Rattle.laws.proofs.Table.{Undone}
use Rattle.permute.specs.Permutation.{at, box, inverses, nibbles, left11, right11, round, unround, rounds, unrounds, E, D}
use Rattle.permute.proofs.Nibbles.{nibbles_lt, nibbles_back}
use Rattle.permute.proofs.Tables.{boxes_undone, inverses_undone}

-- eight keys of 32 bits
pub record Keys (keys : List ℕ) : Type 0 where
  pub fit : (r : ℕ) → r < 8 → at keys r < 2 ^ 32

rotated_back : (x : ℕ) → x < 2 ^ 32 → right11 (left11 x) ≡ x
rotated_back x h = omega arith

rotated_on : (x : ℕ) → x < 2 ^ 32 → left11 (right11 x) ≡ x
rotated_on x h = omega arith

-- ---- one round, with any S-box that has an inverse
module _ {f g : ℕ → ℕ} (u : Undone 16 f g) (key x : ℕ) where
  round_lt : round f key x < 2 ^ 32
  unfolding round
  round_lt = omega (arith, nibbles_lt u 8 ((x + key) % 2 ^ 32))

  unround_lt : unround f key x < 2 ^ 32
  unfolding unround
  unround_lt = omega arith

  round_back : key < 2 ^ 32 → x < 2 ^ 32 → unround g key (round f key x) ≡ x
  unfolding round unround
  round_back k h =
      let y = (x + key) % 2 ^ 32 in
      rw (rotated_back (nibbles 8 f y) (nibbles_lt u 8 y), nibbles_back u 8 y (omega arith)) (omega arith)

  round_on : key < 2 ^ 32 → x < 2 ^ 32 → round g key (unround f key x) ≡ x
  unfolding round unround
  round_on k h =
      let w = nibbles 8 f (right11 x) in
      let s : w < 2 ^ 32 = nibbles_lt u 8 (right11 x) in
      let e : ((w + (2 ^ 32 - key)) % 2 ^ 32 + key) % 2 ^ 32 ≡ w = omega arith in
      rw (e, nibbles_back u 8 (right11 x) (omega arith), rotated_on x h)

-- ---- the rounds
-- backward they lead to words of 32 bits, whatever the keys are
unrounds_lt : (keys : List ℕ) (n : ℕ) → n ≤ 8 → (x : ℕ) → x < 2 ^ 32 → unrounds n keys x < 2 ^ 32
unfolding unrounds
unrounds_lt keys zero h x l = l
unrounds_lt keys (suc r) h x l =
    unrounds_lt keys r (omega arith) (unround (box inverses r) (at keys r) x) (unround_lt (inverses_undone r h) (at keys r) x)

pub D-lt : (keys : List ℕ) (x : ℕ) → x < 2 ^ 32 → D keys x < 2 ^ 32
unfolding D
D-lt keys = unrounds_lt keys 8 (omega arith)

module _ {keys : List ℕ} (k : Keys keys) where
  rounds_lt : (n : ℕ) → n ≤ 8 → (x : ℕ) → x < 2 ^ 32 → rounds n keys x < 2 ^ 32
  unfolding rounds
  rounds_lt zero h x l = l
  rounds_lt (suc r) h x l = round_lt (boxes_undone r h) (at keys r) (rounds r keys x)

  rounds_back : (n : ℕ) → n ≤ 8 → (x : ℕ) → x < 2 ^ 32 → unrounds n keys (rounds n keys x) ≡ x
  unfolding rounds unrounds
  rounds_back zero h x l = refl
  rounds_back (suc r) h x l =
      rw (round_back (boxes_undone r h) (at keys r) (rounds r keys x) (k.fit r h) (rounds_lt r (omega arith) x l))
      (rounds_back r (omega arith) x l)

  rounds_on : (n : ℕ) → n ≤ 8 → (x : ℕ) → x < 2 ^ 32 → rounds n keys (unrounds n keys x) ≡ x
  unfolding rounds unrounds
  rounds_on zero h x l = refl
  rounds_on (suc r) h x l =
      rw (rounds_on r (omega arith) (unround (box inverses r) (at keys r) x) (unround_lt (inverses_undone r h) (at keys r) x))
      (round_on (inverses_undone r h) (at keys r) x (k.fit r h) l)

  pub D-of-E : (x : ℕ) → x < 2 ^ 32 → D keys (E keys x) ≡ x
  unfolding D E
  D-of-E = rounds_back 8 (omega arith)

  pub E-of-D : (x : ℕ) → x < 2 ^ 32 → E keys (D keys x) ≡ x
  unfolding D E
  E-of-D = rounds_on 8 (omega arith)

  pub E-lt : (x : ℕ) → x < 2 ^ 32 → E keys x < 2 ^ 32
  unfolding E
  E-lt = rounds_lt 8 (omega arith)
