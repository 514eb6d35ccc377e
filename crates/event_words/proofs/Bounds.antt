-- How long the line of an event is at most.
use mathlib.Core.Bool.{Bool, true, false, cond, ◌&&◌}
use mathlib.Core.List.{List, [], ◌∷◌, ◌++◌}
use mathlib.Core.Path.{◌≡◌, refl, subst, sym}
use Prim.Native.Nat.{ℕ, zero, suc, ◌+◌, ◌*◌, ◌/◌, ◌%◌, ◌-◌, ◌^◌, ◌<◌, ◌≤◌}
use native.Mathlib.Nat.{mod-le, div-le_self, le_trans}
use native.Mathlib.Omega.{arith}
use borrow.Author.Tests.{leb-true, ltb-true}
use lib.Dec.{eqb, leb, ltb}
use lib.ListN.{get_or, length, length-append}
use Rattle.registers.specs.declared.Chip.{Chip}
use Rattle.registers.specs.declared.Phase.{Phase}
use Rattle.registers.specs.declared.Phase.TheVariants.{Idle, AddressAwaited, Ignoring, ControlAwaited, OneByte, EndlessBytes, Reading, ReadEnded}
use Rattle.registers.specs.declared.Registers.{Registers}
use Rattle.registers.specs.Data.{target_number, place_of}
use Rattle.registers.specs.Record.{names, values, allowed_registers}
use Rattle.registers.specs.Reversed.{reversed_of}
use Rattle.registers.specs.Table.{Row, Part, rows, no_row, above, value, row_at}
use Rattle.registers.proofs.Encode.{above-div}
use Rattle.registers.proofs.NamePieces.{name-bound}
use Rattle.registers.proofs.Within.{both_left, both_right, register-bound}
use Rattle.text.specs.Text.{bytes}
use Rattle.print.specs.Printed.{decimal_of}
use Rattle.print.proofs.Digits.{decimal-bound}
use Rattle.phases.specs.Phases.{rs_of}
use Rattle.display.specs.Display.{column_of, stored_of}
use Rattle.commands.specs.declared.answer.CommandAnswer.{CommandAnswer}
use Rattle.commands.specs.declared.answer.CommandAnswer.TheVariants.{Taken, Unknown, OutOfRange}
use Rattle.engine.specs.Answer.{Answer, Refused, Nothing, Acknowledged, NotAcknowledged, Command, Read}
use Rattle.engine.specs.Event.{event_of}
use Rattle.engine.specs.declared.event.Event.{Event}
use Rattle.engine.specs.declared.event.Event.TheVariants.{Byte, Start, Stop, ReadAcknowledged, ReadNotAcknowledged, Reset, Sensor, Unlisted}
use Rattle.chip.proofs.Rectangles.{reversed-byte}
use Rattle.event_words.specs.Line.{event_line}
use Rattle.event_words.specs.Words.{direction, address_words, announced, display_words, field_words, fields_words, row_words, command_words}
use Rattle.event_words.specs.Words.{content_words, byte_words, event_words, what_of, command_answer_words, answer_words}

-- ---- a byte

direction-bound : (b : ℕ) → length (direction b) ≤ 6
direction-bound b = go (eqb (b % 2) 0)
  where
    go : (t : Bool) → length (cond t (bytes " write") (bytes " read")) ≤ 6
    go true = omega arith
    go false = omega arith

address-bound : (b : ℕ) → b < 256 → length (address_words b) ≤ 17
address-bound b h =
    omega (
      arith,
      length-append (bytes "address ") (decimal_of (b / 2) ++ direction b),
      length-append (decimal_of (b / 2)) (direction b),
      decimal-bound 2 (b / 2) (omega arith),
      direction-bound b,
    )

announced-bound : (one rs : Bool) → length (announced one rs) ≤ 29
announced-bound true false = omega arith
announced-bound true true = omega arith
announced-bound false false = omega arith
announced-bound false true = omega arith

-- the numbers that a display byte is told by
record ShortNumbers (r : Registers) : Type 0 where
  pub column : column_of r < 1000
  pub bank : r.y < 1000
  pub stored : (b : ℕ) → b < 256 → stored_of r b < 1000

display-bound : (r : Registers) (b : ℕ) → ShortNumbers r → b < 256 → length (display_words r b) ≤ 19
unfolding display_words
display-bound r b short h =
    omega (
      arith,
      length-append (bytes "display ") (decimal_of (column_of r) ++ 32 ∷ (decimal_of r.y ++ 32 ∷ decimal_of (stored_of r b))),
      length-append (decimal_of (column_of r)) (32 ∷ (decimal_of r.y ++ 32 ∷ decimal_of (stored_of r b))),
      length-append (decimal_of r.y) (32 ∷ decimal_of (stored_of r b)),
      decimal-bound 2 (column_of r) short.column,
      decimal-bound 2 r.y short.bank,
      decimal-bound 2 (stored_of r b) (short.stored b h),
    )

-- those of an allowed record are
short-registers : (r : Registers) → allowed_registers r ≡ true → ShortNumbers r
unfolding column_of stored_of
short-registers r h =
    record {
      column = column (eqb r.mx 1);
      bank = omega (arith, register-bound r h 10);
      stored = λ b l. kept-short (eqb r.y 16) _ (ordered-short (eqb r.data_order 1) b l);
    }
  where
    column : (t : Bool) → cond t (100 - r.x) r.x < 1000
    column true = omega (arith, register-bound r h 9)
    column false = omega (arith, register-bound r h 9)

    ordered-short : (t : Bool) (b : ℕ) → b < 256 → cond t (reversed_of b) b < 256
    ordered-short true b l = reversed-byte b l
    ordered-short false b l = l

    kept-short : (t : Bool) (n : ℕ) → n < 256 → cond t (n % 64) n < 1000
    kept-short true n l = omega (arith, l)
    kept-short false n l = omega (arith, l)

-- ---- a command: no row has more than three fields

value-bound : (p : Part) (b : ℕ) → value p b ≤ b
value-bound p b = le_trans (mod-le (above p.low b) (2 ^ p.width)) (subst (λ (n : ℕ). n ≤ b) (sym (above-div p.low b)) (div-le_self b (2 ^ p.low)))

field_bound : (r : Registers) (b : ℕ) (p : Part) → b < 256 → length (field_words r b p) ≤ 8
field_bound r b p h =
    let name : List ℕ = get_or names (place_of (target_number p.target) (values r)) [] in
    omega (
      arith,
      length-append name (32 ∷ decimal_of (value p b)),
      name-bound (place_of (target_number p.target) (values r)),
      decimal-bound 2 (value p b) (omega (arith, value-bound p b)),
    )

fields-bound : (r : Registers) (b : ℕ) (ps : List Part) → b < 256 → length (fields_words r b ps) ≤ 8 * length ps
fields-bound r b [] h = omega arith
fields-bound r b (p ∷ ps) h = omega (arith, length-append (field_words r b p) (fields_words r b ps), field_bound r b p h, fields-bound r b ps h)

abbrev three_at_most : List Row → Bool
three_at_most [] = true
three_at_most (w ∷ ws) = leb (length w.parts) 3 && three_at_most ws

parts-there : (ws : List Row) → three_at_most ws ≡ true → (i : ℕ) → length (get_or ws i no_row).parts ≤ 3
parts-there [] e i = omega arith
parts-there (w ∷ ws) e zero = leb-true (length w.parts) 3 (both_left (leb (length w.parts) 3) (three_at_most ws) e)
parts-there (w ∷ ws) e (suc i) = parts-there ws (both_right (leb (length w.parts) 3) (three_at_most ws) e) i

either-bound : (t : Bool) (xs ys : List ℕ) → length xs ≤ 24 → length ys ≤ 24 → length (cond t xs ys) ≤ 24
either-bound true xs ys h k = h
either-bound false xs ys h k = k

row-bound : (r : Registers) (b i : ℕ) → b < 256 → length (row_words r b i) ≤ 24
row-bound r b i h =
    either-bound (eqb i 0) (bytes " nop") _ (omega arith)
    (either-bound (eqb i 1) (bytes " page return") _ (omega arith)
    (either-bound (eqb i 20) (bytes " row block swap") _ (omega arith)
    (omega (arith, fields-bound r b (get_or rows i no_row).parts h, parts-there rows refl i))))

command-bound : (r : Registers) (b : ℕ) → b < 256 → length (command_words r b) ≤ 31
unfolding command_words
command-bound r b h =
    omega (arith, length-append (bytes "command") (row_words r b (row_at r.h b)), row-bound r b (row_at r.h b) h)

-- ---- every event

content-bound : (rs : Bool) (r : Registers) (b : ℕ) → ShortNumbers r → b < 256 → length (content_words rs r b) ≤ 31
content-bound false r b short h = command-bound r b h
content-bound true r b short h = omega (arith, display-bound r b short h)

byte-bound : (p : Phase) (r : Registers) (b : ℕ) → ShortNumbers r → b < 256 → length (byte_words p r b) ≤ 31
unfolding byte_words
byte-bound Idle r b short h = omega arith
byte-bound AddressAwaited r b short h = omega (arith, address-bound b h)
byte-bound Ignoring r b short h = omega arith
byte-bound ControlAwaited r b short h = omega (arith, announced-bound (eqb (b / 128) 1) (rs_of b))
byte-bound (OneByte rs) r b short h = content-bound rs r b short h
byte-bound (EndlessBytes rs) r b short h = content-bound rs r b short h
byte-bound Reading r b short h = omega arith
byte-bound ReadEnded r b short h = omega arith

-- a byte, and a sensor reading, as they come over the bus
abbrev pub ShortEvent : Event → Type 0
ShortEvent (Byte b) = b < 256
ShortEvent Start = Unit {0}
ShortEvent Stop = Unit {0}
ShortEvent ReadAcknowledged = Unit {0}
ShortEvent ReadNotAcknowledged = Unit {0}
ShortEvent Reset = Unit {0}
ShortEvent (Sensor n) = n < 256
ShortEvent Unlisted = Unit {0}

-- every number of an event is so
pub short-event : (e : ℕ) → ShortEvent (event_of e)
short-event e = low (ltb e 256) refl
  where
    pick : (t : Bool) (v w : Event) → ShortEvent v → ShortEvent w → ShortEvent (cond t v w)
    pick true v w h k = h
    pick false v w h k = k

    reading : (t : Bool) → ltb e 768 ≡ t → ShortEvent (cond t (Sensor (e - 512)) Unlisted)
    reading true q = omega (arith, ltb-true e 768 q)
    reading false q = tt

    low :
        (t : Bool) → ltb e 256 ≡ t
        → ShortEvent
        (cond t (Byte e)
        (cond (eqb e 256) Start
        (cond (eqb e 257) Stop
        (cond (eqb e 258) ReadAcknowledged
        (cond (eqb e 259) ReadNotAcknowledged (cond (eqb e 260) Reset (cond (ltb e 512) Unlisted (cond (ltb e 768) (Sensor (e - 512)) Unlisted))))))))
    low true q = ltb-true e 256 q
    low false q =
        pick (eqb e 256) Start _ tt
        (pick (eqb e 257) Stop _ tt
        (pick (eqb e 258) ReadAcknowledged _ tt
        (pick (eqb e 259) ReadNotAcknowledged _ tt
        (pick (eqb e 260) Reset _ tt (pick (ltb e 512) Unlisted _ tt (reading (ltb e 768) refl))))))

words-bound : (v : Event) (c : Chip) → ShortNumbers c.registers → ShortEvent v → length (event_words v c) ≤ 31
unfolding event_words
words-bound (Byte b) c short h = byte-bound c.phase c.registers b short h
words-bound Start c short h = omega arith
words-bound Stop c short h = omega arith
words-bound ReadAcknowledged c short h = omega arith
words-bound ReadNotAcknowledged c short h = omega arith
words-bound Reset c short h = omega arith
words-bound (Sensor n) c short h = omega (arith, length-append (bytes "sensor ") (decimal_of n), decimal-bound 2 n (omega arith))
words-bound Unlisted c short h = omega arith

-- ---- its answer: that of an event that was done

abbrev pub ShortAnswer : Answer → Type 0
ShortAnswer (Refused k) = ⊥
ShortAnswer Nothing = Unit {0}
ShortAnswer Acknowledged = Unit {0}
ShortAnswer NotAcknowledged = Unit {0}
ShortAnswer (Command a) = Unit {0}
ShortAnswer (Read b) = b < 256

command-answer-bound : (a : CommandAnswer) → length (command_answer_words a) ≤ 16
command-answer-bound Taken = omega arith
command-answer-bound Unknown = omega arith
command-answer-bound OutOfRange = omega arith

answer-bound : (a : Answer) → ShortAnswer a → length (answer_words a) ≤ 16
unfolding answer_words
answer-bound (Refused k) h = absurd h
answer-bound Nothing h = omega arith
answer-bound Acknowledged h = omega arith
answer-bound NotAcknowledged h = omega arith
answer-bound (Command a) h = command-answer-bound a
answer-bound (Read b) h = omega (arith, decimal-bound 2 b (omega arith))

-- ---- the line

line-length : (a b c d : List ℕ) → length ((a ++ 9 ∷ (b ++ 9 ∷ (c ++ 9 ∷ d))) ++ (10 ∷ [])) ≡ length a + length b + length c + length d + 4
line-length a b c d = simp length-append (omega arith)

-- twenty digits of number, three of event, 31 bytes of words, 16 of answer, three tabs and the newline
pub event-line-bound :
    (e : ℕ) (c : Chip) (n : ℕ) (a : Answer) → e < 1000 → n < 2 ^ 64 → allowed_registers c.registers ≡ true → ShortAnswer a
    → length (event_line e c n a) ≤ 74
event-line-bound e c n a he hn ok ha =
    omega (
      arith,
      line-length (decimal_of (n + 1)) (decimal_of e) (what_of e c) (answer_words a),
      decimal-bound 19 (n + 1) (omega (arith, hn)),
      decimal-bound 2 e (omega arith),
      words-bound (event_of e) c (short-registers c.registers ok) (short-event e),
      answer-bound a ha,
    )
