-- What follows the IP header, read from the usable bytes that do: it is what the definition reads in the whole packet.
-- Assumes nothing.
use mathlib.Core.Path.{◌≡◌, refl, sym, ap, ◌∙◌}
use mathlib.Core.Bool.{Bool, true, false, cond}
use mathlib.Core.List.{List}
use Prim.Native.Nat.{ℕ, ◌+◌, ◌-◌, ◌≤◌, ◌<◌}
use native.Mathlib.Omega.{arith}
use lib.Dec.{eqb, ltb}
use lib.ListN.{length, get_or, take, drop, length-take, length-drop}
use lib.Seq.{get_or-take, get_or-drop}
use borrow.Author.Tests.{lt-ltb, le-ltb, ltb-false}
use Rattle.laws.proofs.Tests.{Which, below, above, which, or_right}
use Rattle.std.specs.Prelude.{Option, Some, None, Result, Ok, Err}
use Rattle.refused.specs.declared.Refusal.{Refusal}
use Rattle.refused.specs.declared.Refusal.TheVariants as refusal
use Rattle.refused.specs.Refused.{answer_unless}
use Rattle.words.specs.Words.{two_at, four_at}
use Rattle.packet.specs.declared.Transport.{Transport}
use Rattle.packet.specs.declared.Header.{Header}
use Rattle.packet.specs.Kinds.{tcp, udp, ported, kind_of}
use Rattle.packet.specs.Header.{header_length, total_length, usable, later, protocol, wrong, needed, header_refusal, transport_of, header_of, read_of, transport_in, transport_read}

module _ (b : List ℕ) (s n : ℕ) where
  abbrev rest : List ℕ
  rest = take n (drop s b)

  byte : (k at : ℕ) → k < n → at ≡ s + k → get_or rest k 0 ≡ get_or b at 0
  byte k at h e = get_or-take n (drop s b) k 0 h ∙ get_or-drop s b k 0 ∙ ap (λ (j : ℕ). get_or b j 0) (sym e)

  ports : 4 ≤ n → (two_at rest 0 ≡ two_at b s) × (two_at rest 2 ≡ two_at b (s + 2))
  ports h = (
    rw (byte 0 s (omega arith) (omega arith), byte 1 (s + 1) (omega arith) refl),
    rw (byte 2 (s + 2) (omega arith) refl, byte 3 (s + 2 + 1) (omega arith) (omega arith)),
  )

  module _ (p : ℕ) (l : Bool) where
    abbrev whole : Transport
    whole =
        record {
          source_port = cond (ported p l) (two_at b s) 0;
          destination_port = cond (ported p l) (two_at b (s + 2)) 0;
          kind = kind_of p l (get_or b (s + 13) 0);
        }

    alike : needed p l ≤ n → transport_in rest p l ≡ whole
    unfolding needed kind_of
    alike h = go l (eqb p tcp) (eqb p udp) refl refl refl
      where
        go : (x y z : Bool) → l ≡ x → eqb p tcp ≡ y → eqb p udp ≡ z → transport_in rest p l ≡ whole
        go true y z e f g = rw e
        go false true z e f g =
            let enough : 20 ≤ n = rw (e, f) at h in
            let two = ports (omega arith) in
            rw (e, f, two.0, two.1, byte 13 (s + 13) (omega arith) refl)
        go false false true e f g =
            let enough : 8 ≤ n = rw (e, f, g) at h in
            let two = ports (omega arith) in
            rw (e, f, g, two.0, two.1)
        go false false false e f g = rw (e, f, g)

    pub read_there : s + n ≤ length b
        → transport_read rest p l ≡ answer_unless (cond (ltb (s + n) (s + needed p l)) (Some refusal.Short) None) whole
    unfolding transport_read
    read_there fit = go (which n (needed p l))
      where
        long : length rest ≡ n
        long = omega (arith, length-take n (drop s b), length-drop s b)

        go : Which n (needed p l) → transport_read rest p l ≡ answer_unless (cond (ltb (s + n) (s + needed p l)) (Some refusal.Short) None) whole
        go (below h) = rw (long, lt-ltb _ _ h, lt-ltb (s + n) (s + needed p l) (omega arith))
        go (above h) = rw (long, le-ltb _ _ h, le-ltb (s + n) (s + needed p l) (omega arith), alike h)

-- ---- the answer, where the tests before that one are passed
module _ (b : List ℕ) (long : 20 ≤ length b) (right : wrong b ≡ false) (headed : header_length b ≤ length b) where
  abbrev follows : Result Transport Refusal
  follows = transport_read (take (usable b - header_length b) (drop (header_length b) b)) (protocol b) (later b)

  abbrev pub with_transport : Result Transport Refusal → Result Header Refusal
  with_transport (Ok transport) =
      Ok (record { source = four_at b 12; destination = four_at b 16; protocol = protocol b; later = later b; transport = transport })
  with_transport (Err refusal) = Err refusal

  pub read_on : read_of b ≡ with_transport follows
  unfolding read_of header_refusal header_of transport_of
  read_on =
      let within : header_length b ≤ total_length b = ltb-false _ _ (or_right _ _ right) in
      let up_to : header_length b + (usable b - header_length b) ≡ usable b = omega arith in
      rw (le-ltb _ _ long, right, le-ltb _ _ headed)
      (go (cond (ltb (usable b) (header_length b + needed (protocol b) (later b))) (Some refusal.Short) None)
      ∙ ap with_transport (sym (read_there b (header_length b) (usable b - header_length b) (protocol b) (later b) (omega (arith, headed))
      ∙ ap (λ (u : ℕ). answer_unless (cond (ltb u (header_length b + needed (protocol b) (later b))) (Some refusal.Short) None) (transport_of b)) up_to)))
    where
      go : (refused : Option Refusal) → answer_unless refused (header_of b) ≡ with_transport (answer_unless refused (transport_of b))
      go None = refl
      go (Some refusal) = refl
