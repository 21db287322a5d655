-- Document 01, refusals 5 and 6 with the order of the header tests, and what reading answers. Places in the headers are those of
-- RFC 791 (IPv4), RFC 9293 (TCP) and RFC 768 (UDP).
-- Assumes nothing.
use Rattle.std.specs.Prelude.{Bool, cond, not, ◌||◌, List, ℕ, ◌+◌, ◌*◌, ◌/◌, ◌%◌, min, eqb, ltb, length, get_or, Option, Some, None, Result}
use Rattle.refused.specs.declared.Refusal.{Refusal}
use Rattle.refused.specs.declared.Refusal.TheVariants as refusal
use Rattle.refused.specs.Refused.{answer_unless}
use Rattle.words.specs.Words.{two_at, four_at}
use Rattle.packet.specs.declared.kinds.Kind.{Kind}
use Rattle.packet.specs.declared.kinds.Kind.TheVariants.{Plain}
use Rattle.packet.specs.declared.Transport.{Transport}
use Rattle.packet.specs.declared.Header.{Header}
use Rattle.packet.specs.Kinds.{udp, tcp, kind_of, ported}

-- ---- the IP header of a packet's bytes
abbrev pub version : List ℕ → ℕ
version b = get_or b 0 0 / 16

-- the header length counts words of four bytes
abbrev pub header_words : List ℕ → ℕ
header_words b = get_or b 0 0 % 16

abbrev pub header_length : List ℕ → ℕ
header_length b = header_words b * 4

abbrev pub total_length : List ℕ → ℕ
total_length b = two_at b 2

-- the fragment offset is the low 13 bits of its two bytes
abbrev pub later : List ℕ → Bool
later b = ltb 0 (two_at b 6 % 8192)

abbrev pub protocol : List ℕ → ℕ
protocol b = get_or b 9 0

-- "Usable bytes are the smaller of those given and the total length."
abbrev pub usable : List ℕ → ℕ
usable b = min (length b) (total_length b)

-- "With fragment offset 0, TCP needs 20 usable bytes after the IP header and UDP 8"
unfoldable pub needed : ℕ → Bool → ℕ
needed protocol later =
    cond later 0 (cond (eqb protocol tcp) 20 (cond (eqb protocol udp) 8 0))

-- 6: "the IP version isn't 4, header length below 5 words, or total length below header length"
abbrev pub wrong : List ℕ → Bool
wrong b = (not (eqb (version b) 4) || ltb (header_words b) 5) || ltb (total_length b) (header_length b)

-- "header tests have their own order: fewer than 20 bytes, 5; then 6; then bytes fewer than the header length, 5; then transport"
unfoldable pub header_refusal : List ℕ → Option Refusal
header_refusal b =
    cond (ltb (length b) 20) (Some refusal.Short)
    (cond (wrong b) (Some refusal.Header)
    (cond (ltb (length b) (header_length b)) (Some refusal.Short)
    (cond (ltb (usable b) (header_length b + needed (protocol b) (later b))) (Some refusal.Short)
    None)))

-- ---- what is read
-- TCP's flags are the byte 13 after the IP header
abbrev pub flags : List ℕ → ℕ
flags b = get_or b (header_length b + 13) 0

-- the source port stands first after the IP header, and the destination port two bytes on
abbrev pub port_at : List ℕ → ℕ → ℕ
port_at b place = cond (ported (protocol b) (later b)) (two_at b place) 0

unfoldable pub transport_of : List ℕ → Transport
transport_of b =
    record {
      source_port = port_at b (header_length b);
      destination_port = port_at b (header_length b + 2);
      kind = kind_of (protocol b) (later b) (flags b);
    }

unfoldable pub header_of : List ℕ → Header
header_of b =
    record { source = four_at b 12; destination = four_at b 16; protocol = protocol b; later = later b; transport = transport_of b }

-- "The answer of a refusal is its number alone."
unfoldable pub read_of : List ℕ → Result Header Refusal
read_of b = answer_unless (header_refusal b) (header_of b)

-- ---- the same, as the code finds it: of the usable bytes after the IP header, which may be too few for the protocol
abbrev pub transport_in : List ℕ → ℕ → Bool → Transport
transport_in rest protocol later =
    record {
      source_port = cond (ported protocol later) (two_at rest 0) 0;
      destination_port = cond (ported protocol later) (two_at rest 2) 0;
      kind = kind_of protocol later (get_or rest 13 0);
    }

unfoldable pub transport_read : List ℕ → ℕ → Bool → Result Transport Refusal
transport_read rest protocol later =
    answer_unless (cond (ltb (length rest) (needed protocol later)) (Some refusal.Short) None) (transport_in rest protocol later)

-- ---- the two forms of `transport_of` that the code's own steps answer: with ports that stand at a place, and without
abbrev pub with_ports : List ℕ → ℕ → Kind → Transport
with_ports b start kind = record { source_port = two_at b start; destination_port = two_at b (start + 2); kind = kind }

abbrev pub without_ports : Transport
without_ports = record { source_port = 0; destination_port = 0; kind = Plain }
