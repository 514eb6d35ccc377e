-- Wrong compilers: outputs that demand 3 shuts out, and outputs that play right and are not the list's stream.
use Rattle.std.specs.Prelude.{List, [], ◌∷◌, ◌++◌, ◌≡◌, ℕ, ◌+◌}
use Prim.Native.String.{String}
use Rattle.cases_proved.specs.Cited.{length, H, DO, «V», MX, X, blank, State, message, data_message, bytes}
use Rattle.cases_proved.specs.Cited.{Line, lines, reading_of, lines_of, stream, Demand3, Draws}
use Rattle.cases_proved.specs.Start.{Setting, ◌is◌, upon}

-- an output for a drawing list: the registers that are set after reset, the list's text, and the events that stand in the output
pub record Output : Type 0 where
  pub before : List Setting
  pub text : String
  pub events : List ℕ

abbrev pub output : List Setting → String → List ℕ → Output
output before text events = record { before = before; text = text; events = events }

abbrev pub start : Output → State
start o = upon o.before

abbrev pub lines_in : Output → List Line
lines_in o = lines_of (reading_of (bytes o.text))

-- the list is accepted, demand 3 does not hold of these events, and so they are not what `compile` promises to write
pub record Wrong (o : Output) : Type 0 where
  pub reads : reading_of (bytes o.text) ≡ lines (lines_in o)
  pub not_met : Demand3 (lines_in o) o.events (start o) → ⊥
  pub not_promised : Draws (start o).chip (bytes o.text) (length o.events) o.events → ⊥

-- demand 3 does hold of these events, and yet they are not the list's stream, which is what `compile` writes
pub record Other (o : Output) : Type 0 where
  pub reads : reading_of (bytes o.text) ≡ lines (lines_in o)
  pub met : Demand3 (lines_in o) o.events (start o)
  pub not_the_stream : stream 0 (lines_in o) (blank (start o).chip.registers) ≡ o.events → ⊥

-- ---- the commands by name, and the messages to the chip with pins 0

abbrev pub return : ℕ
return = 1

abbrev pub page : ℕ → ℕ
page h = 8 + h

abbrev pub y : ℕ → ℕ
y n = 64 + n

abbrev pub x : ℕ → ℕ
x n = 128 + n

-- START, address, commands, STOP
abbrev pub commands : List ℕ → List ℕ
commands = message 0

-- START, address, commands, 40h, display bytes, STOP
abbrev pub display : List ℕ → List ℕ → List ℕ
display = data_message 0

-- ---- the tables

unfoldable pub wrong_outputs : List Output
wrong_outputs =
    -- an empty stream
    output [] "put\t5\t2\t167\n" []
    -- no page return, though the chip stands in page 1
    ∷ output (H is 1 ∷ []) "put\t5\t2\t167\n" (display (x 5 ∷ y 2 ∷ []) (0xA7 ∷ []))
    -- no X command
    ∷ output [] "put\t5\t2\t167\n" (display (return ∷ y 2 ∷ []) (0xA7 ∷ []))
    -- no Y command
    ∷ output [] "put\t5\t2\t167\n" (display (return ∷ x 5 ∷ []) (0xA7 ∷ []))
    -- DO = 1, and the byte is not swapped
    ∷ output (DO is 1 ∷ []) "put\t5\t2\t167\n" (display (return ∷ x 5 ∷ y 2 ∷ []) (0xA7 ∷ []))
    -- MX = 1, and the run goes to the column as if MX were 0
    ∷ output (MX is 1 ∷ []) "put\t5\t2\t167\n" (display (return ∷ x 5 ∷ y 2 ∷ []) (0xA7 ∷ []))
    -- MX = 1, and columns are mirrored from 101
    ∷ output (MX is 1 ∷ []) "put\t5\t2\t167\n" (display (return ∷ x 96 ∷ y 2 ∷ []) (0xA7 ∷ []))
    -- MX = 1, and the run starts at the X of the first column
    ∷ output (MX is 1 ∷ []) "fill\t5\t7\t2\t2\t167\n" (display (return ∷ x 95 ∷ y 2 ∷ []) (0xA7 ∷ 0xA7 ∷ 0xA7 ∷ []))
    -- V = 1, and the run goes along the bank
    ∷ output («V» is 1 ∷ []) "fill\t5\t6\t2\t2\t167\n" (display (return ∷ x 5 ∷ y 2 ∷ []) (0xA7 ∷ 0xA7 ∷ []))
    -- V = 1, and the next run goes to the column before
    ∷ output («V» is 1 ∷ []) "fill\t5\t6\t2\t2\t167\n"
    (display (return ∷ x 5 ∷ y 2 ∷ []) (0xA7 ∷ []) ++ display (return ∷ x 4 ∷ y 2 ∷ []) (0xA7 ∷ []))
    -- the second bank is left out
    ∷ output [] "fill\t5\t5\t2\t3\t167\n" (display (return ∷ x 5 ∷ y 2 ∷ []) (0xA7 ∷ []))
    -- a byte too few, and one too many
    ∷ output [] "fill\t5\t6\t2\t2\t167\n" (display (return ∷ x 5 ∷ y 2 ∷ []) (0xA7 ∷ []))
    ∷ output [] "put\t5\t2\t167\n" (display (return ∷ x 5 ∷ y 2 ∷ []) (0xA7 ∷ 0xA7 ∷ []))
    -- the address of the chip with pins 1
    ∷ output [] "put\t5\t2\t167\n" (data_message 1 (return ∷ x 5 ∷ y 2 ∷ []) (0xA7 ∷ []))
    -- MX = 1, and columns are mirrored from 101: X 101 is sent for column 0, which a chip draws right whose X is 100 already
    ∷ output (MX is 1 ∷ X is 100 ∷ []) "put\t0\t2\t167\n" (display (return ∷ x 101 ∷ y 2 ∷ []) (0xA7 ∷ []))
    -- what the chip does not take, sent before what it does: X 101, Y 17, page 5, a byte of no row
    ∷ output [] "put\t5\t2\t167\n" (display (return ∷ x 101 ∷ x 5 ∷ y 2 ∷ []) (0xA7 ∷ []))
    ∷ output [] "put\t5\t2\t167\n" (display (return ∷ x 5 ∷ y 17 ∷ y 2 ∷ []) (0xA7 ∷ []))
    ∷ output [] "put\t5\t2\t167\n" (display (return ∷ page 5 ∷ x 5 ∷ y 2 ∷ []) (0xA7 ∷ []))
    ∷ output [] "put\t5\t2\t167\n" (display (return ∷ 0b0000_0010 ∷ x 5 ∷ y 2 ∷ []) (0xA7 ∷ []))
    -- an event that is not listed, after the right ones
    ∷ output [] "put\t5\t2\t167\n" (display (return ∷ x 5 ∷ y 2 ∷ []) (0xA7 ∷ []) ++ 261 ∷ [])
    -- two lines in the other order
    ∷ output [] "put\t5\t2\t1\nput\t5\t2\t2\n" (display (return ∷ x 5 ∷ y 2 ∷ []) (2 ∷ []) ++ display (return ∷ x 5 ∷ y 2 ∷ []) (1 ∷ []))
    -- set v 1: PD is dropped, which is 1 after reset; and DO is
    ∷ output [] "set\tv\t1\n" (commands (return ∷ 0b0001_0010 ∷ []))
    ∷ output (DO is 1 ∷ []) "set\tv\t1\n" (commands (return ∷ 0b0001_0110 ∷ []))
    -- the neighbours go out as they were before the list, and not as tracked
    ∷ output [] "set\tpd\t0\nset\tv\t1\n" (commands (return ∷ 0b0001_0000 ∷ []) ++ commands (return ∷ 0b0001_0110 ∷ []))
    -- and so do DO, MX and V of a fill
    ∷ output [] "set\tdo\t1\nput\t5\t2\t167\n" (commands (return ∷ 0b0001_1100 ∷ []) ++ display (return ∷ x 5 ∷ y 2 ∷ []) (0xA7 ∷ []))
    ∷ output [] "set\tmx\t1\nput\t5\t2\t167\n"
    (commands (return ∷ page 1 ∷ 0b0000_1100 ∷ return ∷ []) ++ display (return ∷ x 5 ∷ y 2 ∷ []) (0xA7 ∷ []))
    ∷ output [] "set\tv\t1\nfill\t5\t6\t2\t2\t167\n"
    (commands (return ∷ 0b0001_0110 ∷ []) ++ display (return ∷ x 5 ∷ y 2 ∷ []) (0xA7 ∷ 0xA7 ∷ []))
    -- a level without its select, which goes to grey register 0
    ∷ output [] "set\tgs2\t33\n" (commands (return ∷ page 3 ∷ 0b1010_0001 ∷ return ∷ []))
    -- a select without its level
    ∷ output [] "set\tgs2\t33\n" (commands (return ∷ page 3 ∷ 0b0100_0010 ∷ return ∷ []))
    -- 63 sent as 64, the level that it shows: cut to six bits, and not cut, which is no row of that page
    ∷ output [] "set\tgs0\t63\n" (commands (return ∷ page 3 ∷ 0b0100_0000 ∷ 0b1000_0000 ∷ return ∷ []))
    ∷ output [] "set\tgs0\t63\n" (commands (return ∷ page 3 ∷ 0b0100_0000 ∷ 0b1100_0000 ∷ return ∷ []))
    -- no page command, no page return before it, and the page of another row
    ∷ output [] "set\tmx\t1\n" (commands (return ∷ 0b0000_1100 ∷ return ∷ []))
    ∷ output (H is 2 ∷ []) "set\tmx\t1\n" (commands (page 1 ∷ 0b0000_1100 ∷ return ∷ []))
    ∷ output (H is 1 ∷ []) "set\tpd\t0\n" (commands (0b0001_0000 ∷ []))
    ∷ output [] "set\tmx\t1\n" (commands (return ∷ page 4 ∷ 0b0000_1100 ∷ return ∷ []))
    -- the first line does not go back to page 0, and the second has no page return
    ∷ output [] "set\tmx\t1\nput\t5\t2\t167\n"
    (commands (return ∷ page 1 ∷ 0b0000_1100 ∷ []) ++ display (x 95 ∷ y 2 ∷ []) (0xA7 ∷ []))
    ∷ []

-- what demand 3 does not say: the order of runs, the page at the end, and what is sent without need. These are held by the stream itself
unfoldable pub other_outputs : List Output
other_outputs =
    -- runs by falling bank, and by falling column
    output [] "fill\t5\t5\t2\t3\t167\n" (display (return ∷ x 5 ∷ y 3 ∷ []) (0xA7 ∷ []) ++ display (return ∷ x 5 ∷ y 2 ∷ []) (0xA7 ∷ []))
    ∷ output («V» is 1 ∷ []) "fill\t5\t6\t2\t2\t167\n"
    (display (return ∷ x 6 ∷ y 2 ∷ []) (0xA7 ∷ []) ++ display (return ∷ x 5 ∷ y 2 ∷ []) (0xA7 ∷ []))
    -- a NOP, and two page returns
    ∷ output [] "put\t5\t2\t167\n" (display (return ∷ 0b0000_0000 ∷ x 5 ∷ y 2 ∷ []) (0xA7 ∷ []))
    ∷ output [] "put\t5\t2\t167\n" (display (return ∷ return ∷ x 5 ∷ y 2 ∷ []) (0xA7 ∷ []))
    -- no STOP
    ∷ output [] "put\t5\t2\t167\n" (256 ∷ 0x78 ∷ 0x80 ∷ return ∷ 0x80 ∷ x 5 ∷ 0x80 ∷ y 2 ∷ 0x40 ∷ 0xA7 ∷ [])
    -- not back to page 0, where each later message begins with a page return
    ∷ output [] "set\tmx\t1\n" (commands (return ∷ page 1 ∷ 0b0000_1100 ∷ []))
    ∷ output [] "set\tmx\t1\nput\t5\t2\t167\n"
    (commands (return ∷ page 1 ∷ 0b0000_1100 ∷ []) ++ display (return ∷ x 95 ∷ y 2 ∷ []) (0xA7 ∷ []))
    -- no select, where GR selects the grey register already
    ∷ output [] "set\tgs0\t33\n" (commands (return ∷ page 3 ∷ 0b1010_0001 ∷ return ∷ []))
    ∷ []
