-- The kind of a TCP packet in words, by its flags: document 02, K5, for every byte of flags.
-- Assumes nothing.
use mathlib.Core.Path.{◌≡◌, refl, sym, ap, ◌∙◌}
use mathlib.Core.Bool.{Bool, true, false, not, ◌&&◌, ◌||◌, cond}
use mathlib.Core.List.{List}
use Prim.Native.Nat.{ℕ, ◌+◌, ◌/◌, ◌%◌, ◌^◌, ◌<◌}
use native.Mathlib.Omega.{arith}
use lib.Dec.{eqb}
use lib.Pow.{field, mod-mod-pow}
use Rattle.laws.specs.Search.{every}
use Rattle.laws.proofs.Table.{agree}
use Rattle.packet.specs.declared.kinds.Kind.{Kind}
use Rattle.packet.specs.declared.kinds.Kind.TheVariants.{Udp, Opening, SynAck, Closing, Plain}
use Rattle.packet.specs.Kinds.{kind_number, tcp, flag_number, tcp_kind, kind_of}
use Rattle.packet.specs.Header.{protocol, later, flags, transport_of, header_of}

-- "its flags are FIN 1, SYN 2, RST 4, ACK 16": whether the flag of such a number is set
abbrev pub is_set : ℕ → ℕ → Bool
is_set flag flags = eqb (flags / flag % 2) 1

-- the kind by the four flags: "TCP SYN without ACK is opening"; SYN with ACK, and neither FIN nor RST, is SYN+ACK; FIN or RST, not both, and
-- no SYN, is closing, with ACK or without; all else is plain
abbrev pub by_flags : Bool → Bool → Bool → Bool → Kind
by_flags fin syn rst ack =
    cond (syn && not ack) Opening
    (cond (syn && not (fin || rst)) SynAck
    (cond (not syn && ((fin || rst) && not (fin && rst))) Closing
    Plain))

abbrev pub in_words : ℕ → Kind
in_words flags = by_flags (is_set 1 flags) (is_set 2 flags) (is_set 4 flags) (is_set 16 flags)

-- the kind that has a number
abbrev numbered : ℕ → Kind
numbered number =
    cond (eqb number 0) Udp (cond (eqb number 1) Opening (cond (eqb number 2) SynAck (cond (eqb number 3) Closing Plain)))

told_apart : (kind : Kind) → numbered (kind_number kind) ≡ kind
told_apart Udp = refl
told_apart Opening = refl
told_apart SynAck = refl
told_apart Closing = refl
told_apart Plain = refl

-- all 32 values of the four flags, and PSH beside them, by one test
low_flags : (flags : ℕ) → flags < 32 → tcp_kind (flag_number flags) ≡ in_words flags
unfolding every tcp_kind
low_flags = agree kind_number numbered told_apart 32 (λ flags. tcp_kind (flag_number flags)) in_words refl

-- a bit is the same after a mask that leaves it: bit j of n, and of the low k + 1 + j bits of n
same_bit : (n j k : ℕ) → n / 2 ^ j % 2 ≡ n % 2 ^ (k + 1 + j) / 2 ^ j % 2
same_bit n j k = sym (ap (λ (u : ℕ). u % 2) (field n (k + 1) j) ∙ mod-mod-pow (n / 2 ^ j) k 1)

-- and of every byte, since the flags above ACK, which are URG, ECE and CWR, make no difference to either
pub in_words_lem : (flags : ℕ) → tcp_kind (flag_number flags) ≡ in_words flags
in_words_lem flags =
    rw (sym (mod-mod-pow flags 2 3), same_bit flags 0 4, same_bit flags 1 3, same_bit flags 2 2, same_bit flags 4 0)
    (low_flags (flags % 32) (omega arith))

-- ---- a packet that opens: TCP, no later fragment, with SYN and without ACK, whatever else is set
pub record Opens (bytes : List ℕ) : Type 0 where
  pub of_tcp : protocol bytes ≡ tcp
  pub first : later bytes ≡ false
  pub syn : is_set 2 (flags bytes) ≡ true
  pub no_ack : is_set 16 (flags bytes) ≡ false

pub opens : (bytes : List ℕ) → Opens bytes → (header_of bytes).transport.kind ≡ Opening
unfolding header_of transport_of kind_of
opens bytes o = rw (o.first, o.of_tcp, in_words_lem (flags bytes), o.syn, o.no_ack)
