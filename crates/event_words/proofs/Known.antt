-- The words of chosen events, to the byte: what `what_of` computes to, and what `answer_words` does. A definition that says another word is refused here.
use mathlib.Core.Bool.{true, false}
use mathlib.Core.List.{List, [], ◌∷◌, map}
use mathlib.Core.Path.{◌≡◌, refl}
use Prim.Native.Nat.{ℕ}
use Prim.Native.String.{String}
use Rattle.registers.specs.declared.Chip.{Chip}
use Rattle.registers.specs.declared.Phase.{Phase}
use Rattle.registers.specs.declared.Phase.TheVariants.{Idle, AddressAwaited, Ignoring, ControlAwaited, OneByte, EndlessBytes, Reading, ReadEnded}
use Rattle.registers.specs.declared.Registers.{Registers}
use Rattle.registers.specs.Record.{put, reset_registers, reset_chip, in_phase, with_registers}
use Rattle.registers.specs.Table.{row_at}
use Rattle.text.specs.Text.{bytes}
use Rattle.print.specs.Printed.{decimal_of}
use Rattle.display.specs.Display.{column_of, stored_of}
use Rattle.commands.specs.declared.answer.CommandAnswer.TheVariants.{Taken, Unknown, OutOfRange}
use Rattle.engine.specs.Answer.{Nothing, Acknowledged, NotAcknowledged, Command, Read}
use Rattle.event_words.specs.Words.{display_words, command_words, byte_words, event_words, what_of, answer_words}

-- the event e is said in these words to a chip in this phase, with these registers
pub record Known : Type 0 where
  pub phase : Phase
  pub registers : Registers
  pub event : ℕ
  pub words : String

abbrev known : Phase → Registers → ℕ → String → Known
known p r e s = record { phase = p; registers = r; event = e; words = s }

abbrev chip_of : Known → Chip
chip_of k = in_phase (with_registers (reset_chip 0) k.registers) k.phase

abbrev said_of : List Known → List (List ℕ)
said_of ks = map (λ (k : Known). what_of k.event (chip_of k)) ks

abbrev words_of : List Known → List (List ℕ)
words_of ks = map (λ (k : Known). bytes k.words) ks

-- the registers after reset, in page h
abbrev in_page : ℕ → Registers
in_page h = put 0 h reset_registers

-- GR 2, in page 3
abbrev grey_two : Registers
grey_two = put 20 2 (in_page 3)

-- MX 1 and DO 1, X 5, Y 16
abbrev mirrored : Registers
mirrored = put 1 1 (put 6 1 (put 9 5 (put 10 16 reset_registers)))

abbrev commands : List Known
commands =
    known (OneByte false) (in_page 0) 20 "command do 0 pd 1 v 0"
    ∷ known (EndlessBytes false) (in_page 0) 229 "command x 101"
    ∷ known (OneByte false) (in_page 0) 81 "command y 17"
    ∷ known (OneByte false) (in_page 0) 13 "command h 5"
    ∷ known (OneByte false) (in_page 1) 13 "command mx 1 my 0 ps 1"
    ∷ known (OneByte false) (in_page 2) 255 "command vop 127"
    ∷ known (OneByte false) grey_two 67 "command gr 3"
    ∷ known (OneByte false) grey_two 168 "command gs2 40"
    ∷ known (OneByte false) (in_page 4) 72 "command row block swap"
    ∷ known (OneByte false) (in_page 4) 1 "command page return"
    ∷ known (OneByte false) (in_page 2) 0 "command nop"
    ∷ known (OneByte false) (in_page 0) 2 "command" ∷ []

abbrev others : List Known
others =
    known AddressAwaited reset_registers 120 "address 60 write"
    ∷ known AddressAwaited reset_registers 255 "address 127 read"
    ∷ known ControlAwaited reset_registers 128 "control one command"
    ∷ known ControlAwaited reset_registers 192 "control one display byte"
    ∷ known ControlAwaited reset_registers 63 "control endless commands"
    ∷ known ControlAwaited reset_registers 64 "control endless display bytes"
    ∷ known (OneByte true) mirrored 240 "display 95 16 15"
    ∷ known (EndlessBytes true) reset_registers 240 "display 0 0 240"
    ∷ known Idle reset_registers 120 "ignored"
    ∷ known Ignoring reset_registers 120 "ignored"
    ∷ known Reading reset_registers 120 "ignored"
    ∷ known ReadEnded reset_registers 120 "ignored"
    ∷ known Idle reset_registers 256 "start"
    ∷ known Reading reset_registers 257 "stop"
    ∷ known Reading reset_registers 258 "read"
    ∷ known Idle reset_registers 259 "last read"
    ∷ known Idle reset_registers 260 "reset"
    ∷ known Idle reset_registers 537 "sensor 25" ∷ []

pub commands-said : said_of commands ≡ words_of commands
unfolding event_words byte_words command_words display_words row_at decimal_of
commands-said = refl

pub others-said : said_of others ≡ words_of others
unfolding event_words byte_words command_words display_words column_of stored_of decimal_of
others-said = refl

pub answers-said :
    map answer_words (Nothing ∷ Acknowledged ∷ NotAcknowledged ∷ Command Taken ∷ Command Unknown ∷ Command OutOfRange ∷ Read 255 ∷ [])
    ≡ map bytes ("-" ∷ "acknowledged" ∷ "not acknowledged" ∷ "taken" ∷ "unknown" ∷ "out of range" ∷ "255" ∷ [])
unfolding answer_words decimal_of
answers-said = refl
