-- Document 01, "Kinds of packet", with document 02, K5.
-- Assumes nothing.
use Rattle.std.specs.Prelude.{Bool, cond, not, ◌&&◌, ◌||◌, [], ◌∷◌, ℕ, ◌+◌, ◌*◌, ◌/◌, ◌%◌, eqb}
use Rattle.laws.specs.Choice.{among}
use Rattle.packet.specs.declared.kinds.Kind.{Kind}
use Rattle.packet.specs.declared.kinds.Kind.TheVariants.{Udp, Opening, SynAck, Closing, Plain}
use Rattle.packet.specs.declared.Header.{Header}

-- the kinds by numbers, in the order of document 02, K4: "The kind's values are UDP, opening, SYN+ACK, closing and plain."
abbrev pub kind_number : Kind → ℕ
kind_number Udp = 0
kind_number Opening = 1
kind_number SynAck = 2
kind_number Closing = 3
kind_number Plain = 4

-- "UDP is protocol 17. TCP is protocol 6"
abbrev pub udp : ℕ
udp = 17

abbrev pub tcp : ℕ
tcp = 6

-- "its flags are FIN 1, SYN 2, RST 4, ACK 16; PSH, URG, ECE and CWR are ignored": the number that the four make of the flags' byte
abbrev pub flag_number : ℕ → ℕ
flag_number flags = flags % 8 + flags / 16 % 2 * 16

-- "After that: 2 is opening; 18 is SYN+ACK; 1, 4, 17 and 20 are closing; every other value is plain", but for what document 02, K5, says:
-- "Document 01 was too narrow: TCP SYN without ACK is opening, so 2, 3, 6 and 7 are; 18 stays SYN+ACK; 19, 22 and 23 stay plain."
unfoldable pub tcp_kind : ℕ → Kind
tcp_kind n =
    cond (among n (2 ∷ 3 ∷ 6 ∷ 7 ∷ [])) Opening
    (cond (among n (18 ∷ [])) SynAck
    (cond (among n (1 ∷ 4 ∷ 17 ∷ 20 ∷ [])) Closing
    Plain))

-- "Other protocols are plain. A fragment with offset above 0 is plain", which `later` says
unfoldable pub kind_of : ℕ → Bool → ℕ → Kind
kind_of protocol later flags =
    cond later Plain (cond (eqb protocol tcp) (tcp_kind (flag_number flags)) (cond (eqb protocol udp) Udp Plain))

-- the packets whose two ports are read: UDP's too, though `port_of` gives a slot TCP's alone
abbrev pub ported : ℕ → Bool → Bool
ported protocol later = not later && (eqb protocol tcp || eqb protocol udp)

-- a later fragment "has port 0. The port is the plant end's, for TCP; otherwise 0."
abbrev pub port_of : Header → Bool → ℕ
port_of h from_plant =
    cond h.later 0
    (cond (eqb h.protocol tcp) (cond from_plant h.transport.source_port h.transport.destination_port)
    0)
