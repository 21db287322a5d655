-- The values in the texts about a packet that was dropped, each by a letter after "%".
-- Assumes nothing.
use Rattle.std.specs.Prelude.{Bool, true, false, not, ◌&&◌, cond, List, [], ◌∷◌, ◌++◌, ℕ, eqb, Option, Some, None}
use Rattle.std.specs.Bool.{then_some}
use Prim.Native.Char.{code}
use Rattle.packet.specs.declared.Header.{Header}
use Rattle.packet.specs.declared.kinds.Kind.{Kind}
use Rattle.packet.specs.declared.kinds.Kind.TheVariants.{Udp, Opening, SynAck, Closing, Plain}
use Rattle.packet.specs.Kinds.{ported}
use Rattle.sides.specs.declared.Entry.{Entry}
use Rattle.verdicts.specs.declared.Verdict.{Verdict}
use Rattle.verdicts.specs.declared.Verdict.TheVariants.{Uncounted, CreditOfOne, CreditOfTwo, FreshContact, Hygiene, Blocked}
use Rattle.verdicts.specs.Verdicts.{number_of}
use Rattle.lines.specs.Letters.{text}
use Rattle.lines.specs.Text.{decimal, signed, dotted}
use Rattle.explanations.specs.declared.Report.{Report}

-- the kind in a word, and in words
abbrev pub kind_word : Kind → List ℕ
kind_word Udp = text "udp"
kind_word Opening = text "opening"
kind_word SynAck = text "syn+ack"
kind_word Closing = text "closing"
kind_word Plain = text "plain"

abbrev pub kind_words : Kind → List ℕ
kind_words Udp = text "a UDP packet"
kind_words Opening = text "an opening (TCP SYN without ACK)"
kind_words SynAck = text "an answering TCP packet (SYN+ACK)"
kind_words Closing = text "a closing TCP packet (FIN or RST)"
kind_words Plain = text "a plain packet"

-- the packet is dropped as blocked
abbrev pub is_blocking : Verdict → Bool
is_blocking Uncounted = false
is_blocking CreditOfOne = false
is_blocking CreditOfTwo = false
is_blocking FreshContact = false
is_blocking Hygiene = false
is_blocking Blocked = true

-- the kinds that would have been forwarded, where the kind is reported (`kinds_of_blocked`, `kinds_of_others`, reasons/proofs/Reasons)
abbrev pub kinds_that_pass : Bool → List ℕ
kinds_that_pass true = text "SYN+ACK, closing or plain"
kinds_that_pass false = text "UDP, opening or plain"

-- the ports, where the packet has them; each in the first line, or "-"; and in a sentence, or nothing
abbrev pub source_port : Header → Option ℕ
source_port h = then_some (ported h.protocol h.later) h.transport.source_port

abbrev pub destination_port : Header → Option ℕ
destination_port h = then_some (ported h.protocol h.later) h.transport.destination_port

abbrev pub port_word : Option ℕ → List ℕ
port_word (Some port) = decimal port
port_word None = text "-"

abbrev pub port_words : Option ℕ → List ℕ
port_words (Some port) = text " port " ++ decimal port
port_words None = []

-- an entry of a side list: its address "in dotted form", and its prefix length
abbrev pub entry_text : Entry → List ℕ
entry_text entry = dotted entry.address ++ (code "/" ∷ decimal entry.prefix)

-- what a letter stands for; any other stands for nothing
unfoldable pub value_of : Report → ℕ → List ℕ
value_of report letter =
    cond (eqb letter (code "n")) (decimal report.number)
    (cond (eqb letter (code "v")) (decimal (number_of report.drop.verdict))
    (cond (eqb letter (code "c")) (signed report.drop.count)
    (cond (eqb letter (code "t")) (decimal report.drop.threshold)
    (cond (eqb letter (code "s")) (decimal report.seconds)
    (cond (eqb letter (code "a")) (dotted report.drop.header.source)
    (cond (eqb letter (code "b")) (dotted report.drop.header.destination)
    (cond (eqb letter (code "p")) (port_word (source_port report.drop.header))
    (cond (eqb letter (code "q")) (port_word (destination_port report.drop.header))
    (cond (eqb letter (code "P")) (port_words (source_port report.drop.header))
    (cond (eqb letter (code "Q")) (port_words (destination_port report.drop.header))
    (cond (eqb letter (code "i")) (decimal report.drop.header.protocol)
    (cond (eqb letter (code "k")) (kind_word report.drop.header.transport.kind)
    (cond (eqb letter (code "K")) (kind_words report.drop.header.transport.kind)
    (cond (eqb letter (code "e")) (decimal report.drop.cell_entry.number)
    (cond (eqb letter (code "f")) (decimal report.drop.plant_entry.number)
    (cond (eqb letter (code "E")) (entry_text report.drop.cell_entry)
    (cond (eqb letter (code "F")) (entry_text report.drop.plant_entry)
    (cond (eqb letter (code "w")) (kinds_that_pass (is_blocking report.drop.verdict))
    []))))))))))))))))))

-- a byte of a text: behind "%" it is a letter that stands for a value, "%" itself is left out, and any other is put as it is
abbrev pub letter_text : Report → Bool → ℕ → List ℕ
letter_text report marked byte = cond marked (value_of report byte) (cond (eqb byte (code "%")) [] (byte ∷ []))

abbrev pub is_mark : Bool → ℕ → Bool
is_mark marked byte = not marked && eqb byte (code "%")

-- a text with its values, whose first byte stands behind "%" or not
unfoldable pub filled : Report → Bool → List ℕ → List ℕ
filled report marked [] = []
filled report marked (byte ∷ bytes) = letter_text report marked byte ++ filled report (is_mark marked byte) bytes
