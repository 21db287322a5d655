-- How long the text about a record may be: who puts one can leave room for any.
-- Assumes nothing.
use mathlib.Core.Bool.{Bool, true, false, cond}
use mathlib.Core.List.{List, [], ◌∷◌, ◌++◌}
use mathlib.Core.Path.{◌≡◌, refl}
use Prim.Native.Nat.{ℕ, ◌+◌, ◌^◌, ◌≤◌, ◌<◌}
use Prim.Native.Char.{code}
use Prim.Native.String.{String}
use native.Mathlib.Omega.{arith}
use lib.Dec.{eqb}
use lib.IntN.{ℤ, nat_abs}
use lib.ListN.{length, length-append}
use Rattle.std.specs.Prelude.{Option, None, Some, Result, Ok, Err}
use Rattle.refused.specs.declared.Refusal.{Refusal}
use Rattle.refused.specs.Refused.{refusal_number}
use Rattle.packet.specs.declared.kinds.Kind.{Kind}
use Rattle.packet.specs.declared.kinds.Kind.TheVariants.{Udp, Opening, SynAck, Closing, Plain}
use Rattle.sides.specs.declared.Entry.{Entry}
use Rattle.sides.proofs.Winners.{EntrySized}
use Rattle.verdicts.specs.declared.Verdict.{Verdict}
use Rattle.verdicts.specs.declared.Verdict.TheVariants.{Uncounted, CreditOfOne, CreditOfTwo, FreshContact, Hygiene, Blocked}
use Rattle.verdicts.specs.Verdicts.{number_of}
use Rattle.reasons.specs.declared.Drop.{Drop}
use Rattle.reasons.specs.declared.Explanation.{Explanation}
use Rattle.reasons.specs.declared.Explanation.TheVariants as why
use Rattle.lines.specs.Letters.{text}
use Rattle.lines.specs.Text.{decimal, signed, dotted}
use Rattle.lines.proofs.Whole.{signed_short, byte_short, dotted_short, one_digit, refusal_digit, long_number}
use Rattle.explanations.specs.declared.Report.{Report}
use Rattle.std.specs.Bool.{then_some}
use Rattle.packet.specs.Kinds.{ported}
use Rattle.explanations.specs.Values.{kind_word, kind_words, is_blocking, kinds_that_pass, source_port, destination_port, port_word, port_words, entry_text, value_of, letter_text, is_mark, filled}
use Rattle.explanations.specs.Explanations.{said, of_facts, first_line, who_and_whom, by_plant_mark, situation, ways_through, drop_text, forwarded_text, not_ours_text, refused_words, refused_text, refused_asked, explanation_text, is_told, asked_text}

-- ---- what the types of an explanation's parts say of them
pub record DropSized (drop : Drop) : Type 0 where
  pub count : nat_abs drop.count ≤ 2 ^ 15
  pub threshold : drop.threshold < 2 ^ 16
  pub source : drop.header.source < 2 ^ 32
  pub destination : drop.header.destination < 2 ^ 32
  pub protocol : drop.header.protocol < 2 ^ 8
  pub source_port : drop.header.transport.source_port < 2 ^ 16
  pub destination_port : drop.header.transport.destination_port < 2 ^ 16
  pub cell_entry : EntrySized drop.cell_entry
  pub plant_entry : EntrySized drop.plant_entry

abbrev pub ExplanationSized : Result Explanation Refusal → Type 0
ExplanationSized (Err refusal) = Unit {0}
ExplanationSized (Ok why.NotOurs) = Unit {0}
ExplanationSized (Ok (why.Forwarded verdict)) = Unit {0}
ExplanationSized (Ok (why.Dropped drop)) = DropSized drop

abbrev pub AskedSized : Option (Result Explanation Refusal) → Type 0
AskedSized None = Unit {0}
AskedSized (Some explanation) = ExplanationSized explanation

-- ---- a value has at most 33 bytes
record AtMost (k : ℕ) (l : List ℕ) : Type 0 where
  few : length l ≤ k

abbrev Few : List ℕ → Type 0
Few = AtMost 33

nothing_short : Few []
nothing_short = record { few = omega arith }

or_else : {k : ℕ} (t : Bool) (x : List ℕ) {y : List ℕ} → AtMost k x → AtMost k y → AtMost k (cond t x y)
or_else true x f g = f
or_else false x f g = g

-- a number, a verdict's number, a count and an address
decimal_short : (n : ℕ) → n < 2 ^ 64 → Few (decimal n)
decimal_short n h = record { few = omega (arith, long_number n h) }

verdict_short : (verdict : Verdict) → Few (decimal (number_of verdict))
verdict_short verdict = record { few = omega (arith, one_digit verdict) }

count_short : (count : ℤ) → nat_abs count ≤ 2 ^ 15 → Few (signed count)
count_short count h = record { few = omega (arith, signed_short count h) }

address_short : (address : ℕ) → address < 2 ^ 32 → Few (dotted address)
address_short address h = record { few = omega (arith, dotted_short address h) }

-- words
word_short : (kind : Kind) → Few (kind_word kind)
unfolding text
word_short Udp = record { few = omega arith }
word_short Opening = record { few = omega arith }
word_short SynAck = record { few = omega arith }
word_short Closing = record { few = omega arith }
word_short Plain = record { few = omega arith }

words_short : (kind : Kind) → Few (kind_words kind)
unfolding text
words_short Udp = record { few = omega arith }
words_short Opening = record { few = omega arith }
words_short SynAck = record { few = omega arith }
words_short Closing = record { few = omega arith }
words_short Plain = record { few = omega arith }

kinds_short : (blocking : Bool) → Few (kinds_that_pass blocking)
unfolding text
kinds_short true = record { few = omega arith }
kinds_short false = record { few = omega arith }

-- ports
port_short : (has : Bool) (port : ℕ) → port < 2 ^ 16 → Few (port_word (then_some has port))
unfolding text
port_short true port h = decimal_short port (omega (arith, h))
port_short false port h = record { few = omega arith }

port_words_short : (has : Bool) (port : ℕ) → port < 2 ^ 16 → Few (port_words (then_some has port))
unfolding text
port_words_short true port h =
    record { few = omega (arith, long_number port (omega (arith, h)), length-append (text " port ") (decimal port)) }
port_words_short false port h = nothing_short

-- entries of side lists
entry_short : (entry : Entry) → EntrySized entry → Few (entry_text entry)
entry_short entry sized =
    record {
      few = omega (
        arith,
        dotted_short entry.address sized.address,
        byte_short entry.prefix sized.prefix,
        length-append (dotted entry.address) (code "/" ∷ decimal entry.prefix),
      );
    }

module _ (report : Report) (number : report.number < 2 ^ 64) (seconds : report.seconds < 2 ^ 32) (sized : DropSized report.drop) where
  abbrev has : Bool
  has = ported report.drop.header.protocol report.drop.header.later

  value_short : (letter : ℕ) → Few (value_of report letter)
  unfolding value_of
  value_short letter =
      or_else (eqb letter (code "n")) (decimal report.number) (decimal_short report.number number)
      (or_else (eqb letter (code "v")) (decimal (number_of report.drop.verdict)) (verdict_short report.drop.verdict)
      (or_else (eqb letter (code "c")) (signed report.drop.count) (count_short report.drop.count sized.count)
      (or_else (eqb letter (code "t")) (decimal report.drop.threshold) (decimal_short report.drop.threshold (omega (arith, sized.threshold)))
      (or_else (eqb letter (code "s")) (decimal report.seconds) (decimal_short report.seconds (omega (arith, seconds)))
      (or_else (eqb letter (code "a")) (dotted report.drop.header.source) (address_short report.drop.header.source sized.source)
      (or_else (eqb letter (code "b")) (dotted report.drop.header.destination) (address_short report.drop.header.destination sized.destination)
      (or_else (eqb letter (code "p")) (port_word (source_port report.drop.header)) (port_short has report.drop.header.transport.source_port sized.source_port)
      (or_else (eqb letter (code "q")) (port_word (destination_port report.drop.header)) (port_short has report.drop.header.transport.destination_port sized.destination_port)
      (or_else (eqb letter (code "P")) (port_words (source_port report.drop.header)) (port_words_short has report.drop.header.transport.source_port sized.source_port)
      (or_else (eqb letter (code "Q")) (port_words (destination_port report.drop.header)) (port_words_short has report.drop.header.transport.destination_port sized.destination_port)
      (or_else (eqb letter (code "i")) (decimal report.drop.header.protocol) (decimal_short report.drop.header.protocol (omega (arith, sized.protocol)))
      (or_else (eqb letter (code "k")) (kind_word report.drop.header.transport.kind) (word_short report.drop.header.transport.kind)
      (or_else (eqb letter (code "K")) (kind_words report.drop.header.transport.kind) (words_short report.drop.header.transport.kind)
      (or_else (eqb letter (code "e")) (decimal report.drop.cell_entry.number) (decimal_short report.drop.cell_entry.number sized.cell_entry.number)
      (or_else (eqb letter (code "f")) (decimal report.drop.plant_entry.number) (decimal_short report.drop.plant_entry.number sized.plant_entry.number)
      (or_else (eqb letter (code "E")) (entry_text report.drop.cell_entry) (entry_short report.drop.cell_entry sized.cell_entry)
      (or_else (eqb letter (code "F")) (entry_text report.drop.plant_entry) (entry_short report.drop.plant_entry sized.plant_entry)
      (or_else (eqb letter (code "w")) (kinds_that_pass (is_blocking report.drop.verdict)) (kinds_short (is_blocking report.drop.verdict))
      nothing_short))))))))))))))))))

  -- ---- so a text has at most 33 bytes for each value, and one for each other byte but the marks
  abbrev width : Bool → ℕ → ℕ
  width marked byte = cond marked 33 (cond (eqb byte (code "%")) 0 1)

  widths : Bool → List ℕ → ℕ
  widths marked [] = 0
  widths marked (byte ∷ bytes) = width marked byte + widths (is_mark marked byte) bytes

  letter_short : (marked : Bool) (byte : ℕ) → length (letter_text report marked byte) ≤ width marked byte
  letter_short true byte = (value_short byte).few
  letter_short false byte = go (eqb byte (code "%"))
    where
      go : (t : Bool) → length (cond t [] (byte ∷ [])) ≤ cond t 0 1
      go true = omega arith
      go false = omega arith

  filled_short : (marked : Bool) (bytes : List ℕ) → length (filled report marked bytes) ≤ widths marked bytes
  unfolding filled widths
  filled_short marked [] = omega arith
  filled_short marked (byte ∷ bytes) =
      omega (
        arith,
        letter_short marked byte,
        filled_short (is_mark marked byte) bytes,
        length-append (letter_text report marked byte) (filled report (is_mark marked byte) bytes),
      )

  said_short : (letters : String) (n : ℕ) → widths false (text letters) ≡ n → length (said report letters) ≤ n
  said_short letters n e = omega (arith, filled_short false (text letters), e)

  -- ---- the parts
  within : {k : ℕ} (t : Bool) (x : List ℕ) → length x ≤ k → length (cond t x []) ≤ k
  within true x h = h
  within false x h = omega arith

  facts_short : (count plant cell kind : List ℕ)
      → length (of_facts report count plant cell kind) ≤ widths false count + (widths false plant + (widths false cell + widths false kind))
  facts_short count plant cell kind =
      let a = within report.drop.reported.count (filled report false count) (filled_short false count) in
      let b = within report.drop.reported.plant_mark (filled report false plant) (filled_short false plant) in
      let c = within report.drop.reported.cell_mark (filled report false cell) (filled_short false cell) in
      let d = within report.drop.reported.kind (filled report false kind) (filled_short false kind) in
      omega (
        arith,
        a,
        b,
        c,
        d,
        length-append (cond report.drop.reported.count (filled report false count) []) (cond report.drop.reported.plant_mark (filled report false plant) [] ++ (cond report.drop.reported.cell_mark (filled report false cell) [] ++ cond report.drop.reported.kind (filled report false kind) [])),
        length-append (cond report.drop.reported.plant_mark (filled report false plant) []) (cond report.drop.reported.cell_mark (filled report false cell) [] ++ cond report.drop.reported.kind (filled report false kind) []),
        length-append (cond report.drop.reported.cell_mark (filled report false cell) []) (cond report.drop.reported.kind (filled report false kind) []),
      )

  first_short : length (first_line report) ≤ 474
  unfolding text widths
  first_short =
      let words = said_short "%n %v %c %t %s %a %p %b %q %i %k %e %f" 441 refl in
      let facts = facts_short (text " count") (text " plant-mark") (text " cell-mark") (text " kind") in
      omega (
        arith,
        words,
        facts,
        length-append (said report "%n %v %c %t %s %a %p %b %q %i %k %e %f") (of_facts report (text " count") (text " plant-mark") (text " cell-mark") (text " kind") ++ text "\n"),
        length-append (of_facts report (text " count") (text " plant-mark") (text " cell-mark") (text " kind")) (text "\n"),
      )

  who_short : length (who_and_whom report) ≤ 430
  unfolding text widths
  who_short =
      let who = said_short "  %a%P sent %K to %b%Q at second %s.\n" 223 refl in
      let lists = said_short "  It is ours by entry %e of the cell list, %E, and entry %f of the plant list, %F.\n" 207 refl in
      omega (arith, who, lists, length-append (said report "  %a%P sent %K to %b%Q at second %s.\n") (said report "  It is ours by entry %e of the cell list, %E, and entry %f of the plant list, %F.\n"))

  mark_short : (mark : Bool) → length (by_plant_mark report mark) ≤ 123
  unfolding text widths
  mark_short true = said_short "  The plant-to-cell mark of this connection is set, but from a blocked machine UDP and openings do not go through even so.\n" 123 refl
  mark_short false = omega (arith, said_short "  From a blocked machine only answers to the plant go through, and the plant-to-cell mark of this connection is not set.\n" 121 refl)

  situation_short : (blocking : Bool) → length (situation report blocking) ≤ 281
  unfolding text widths
  situation_short true =
      let blocked = said_short "  It was dropped as blocked: the count of %a is %c, and T is %t.\n" 158 refl in
      omega (
        arith,
        blocked,
        mark_short report.drop.marks.plant,
        length-append (said report "  It was dropped as blocked: the count of %a is %c, and T is %t.\n") (by_plant_mark report report.drop.marks.plant),
      )
  situation_short false =
      let hygiene = said_short "  It was dropped as hygiene, not as blocked: the count of %a is %c, and T is %t.\n" 174 refl in
      let neither = said_short "  It answers or closes a connection, and this connection has neither mark.\n" 75 refl in
      omega (arith, hygiene, neither, length-append (said report "  It was dropped as hygiene, not as blocked: the count of %a is %c, and T is %t.\n") (said report "  It answers or closes a connection, and this connection has neither mark.\n"))

  ways_short : length (ways_through report) ≤ 369
  unfolding text widths
  ways_short =
      let ways = said_short "  Any one of these alone would have let it through:\n" 52 refl in
      let count = text "  - the count: below %t\n" in
      let plant = text "  - the plant-to-cell mark: set (the plant has spoken on this connection lately, other than to close it)\n" in
      let cell = text "  - the cell-to-plant mark: set (the cell was let through on this connection lately, other than to close it)\n" in
      let kind = text "  - the kind: %w\n" in
      omega (arith, ways, facts_short count plant cell kind, length-append (said report "  Any one of these alone would have let it through:\n") (of_facts report count plant cell kind))

  drop_short : length (drop_text report) ≤ 1554
  drop_short =
      let blocking = is_blocking report.drop.verdict in
      omega (
        arith,
        first_short,
        who_short,
        situation_short blocking,
        ways_short,
        length-append (first_line report) (who_and_whom report ++ (situation report blocking ++ ways_through report)),
        length-append (who_and_whom report) (situation report blocking ++ ways_through report),
        length-append (situation report blocking) (ways_through report),
      )

-- ---- of any record
forwarded_short : (verdict : Verdict) → length (forwarded_text verdict) ≤ 100
unfolding text
forwarded_short Uncounted = omega arith
forwarded_short CreditOfOne = omega arith
forwarded_short CreditOfTwo = omega arith
forwarded_short FreshContact = omega arith
forwarded_short Hygiene = omega arith
forwarded_short Blocked = omega arith

refused_short : (number : ℕ) → AtMost 100 (refused_words number)
unfolding refused_words text
refused_short number =
    or_else (eqb number 4) _ (record { few = omega arith })
    (or_else (eqb number 5) _ (record { few = omega arith })
    (or_else (eqb number 6) _ (record { few = omega arith })
    (record { few = omega arith })))

-- what is told of a record that is refused, by any number of a byte, has room in 1,554 bytes
pub refused_asked_short : (wanted : Option ℕ) (number refusal : ℕ) → number < 2 ^ 64 → refusal < 2 ^ 8
    → length (refused_asked wanted number refusal) ≤ 1554
unfolding text
refused_asked_short None number refusal n small = omega arith
refused_asked_short (Some wanted) number refusal n small =
    (or_else (eqb number wanted) (decimal number ++ refused_text refusal) {y = []}
    (record {
      few = omega (
        arith,
        long_number number n,
        long_number refusal (omega (arith, small)),
        (refused_short refusal).few,
        length-append (decimal number) (refused_text refusal),
        length-append (text " R ") (decimal refusal ++ refused_words refusal),
        length-append (decimal refusal) (refused_words refusal),
      );
    })
    (record { few = omega arith })).few

-- and so has what is told of any record
pub asked_short : (wanted : Option ℕ) (number seconds : ℕ) (asked : Option (Result Explanation Refusal)) → number < 2 ^ 64 → seconds < 2 ^ 32 → AskedSized asked
    → length (asked_text wanted number seconds asked) ≤ 1554
unfolding text
asked_short wanted number seconds None n s sized = omega arith
asked_short wanted number seconds (Some explanation) n s sized =
    (or_else (is_told wanted number explanation) (explanation_text number seconds explanation) {y = []}
    (record { few = go explanation sized }) (record { few = omega arith })).few
  where
    go : (e : Result Explanation Refusal) → ExplanationSized e → length (explanation_text number seconds e) ≤ 1554
    go (Err refusal) small =
        omega (
          arith,
          long_number number n,
          refusal_digit refusal,
          (refused_short (refusal_number refusal)).few,
          length-append (decimal number) (refused_text (refusal_number refusal)),
          length-append (text " R ") (decimal (refusal_number refusal) ++ refused_words (refusal_number refusal)),
          length-append (decimal (refusal_number refusal)) (refused_words (refusal_number refusal)),
        )
    go (Ok why.NotOurs) small = omega (arith, long_number number n, length-append (decimal number) not_ours_text)
    go (Ok (why.Forwarded verdict)) small =
        omega (arith, long_number number n, forwarded_short verdict, length-append (decimal number) (forwarded_text verdict))
    go (Ok (why.Dropped drop)) small = drop_short (record { number = number; seconds = seconds; drop = drop }) n s small
