-- Demand 3 over the lines of a list, by induction along it.
use mathlib.Core.List.{List, [], ◌∷◌, ◌++◌}
use mathlib.Core.Path.{◌≡◌, refl, ap, ◌∙◌, subst}
use Prim.Native.Nat.{ℕ, ◌+◌, ◌^◌, ◌<◌}
use native.Mathlib.Nat.{add_assoc}
use native.Mathlib.Omega.{arith}
use lib.ListN.{length, length-append}
use Rattle.registers.specs.declared.Registers.{Registers}
use Rattle.registers.specs.Record.{blank}
use Rattle.registers.specs.State.{State}
use Rattle.chip.specs.Plays.{Plays}
use Rattle.chip.specs.Promised.{Fit, TrueCounts}
use Rattle.chip.specs.Promised.{Unknown, OutOfRange}
use Rattle.chip.proofs.Plays.{plays-none, plays-append, plays-weaken, plays-end, plays-good, plays-run}
use Rattle.chip.proofs.Tallies.{plays-tally}
use Rattle.lists.specs.declared.Line.{Line}
use Rattle.lists.specs.declared.Line.TheVariants.{Fill, Set}
use Rattle.lists.specs.Lists.{lines, reading_of}
use Rattle.lists.proofs.Readings.{reading-accepted}
use Rattle.drawing.specs.Demand3.{Demand3}
use Rattle.drawing.specs.Plain.{Picture, picture_of, cells_after, registers_after, plain_reading}
use Rattle.drawing.specs.Stream.{line_events, stream}
use Rattle.drawing.proofs.FillPlays.{Shows, fill-plays}
use Rattle.drawing.proofs.Fits.{LineFits, AllFit, all_fit}
use Rattle.drawing.proofs.SetPlays.{set-plays}

line-plays :
    (l : Line) → LineFits l → (q : Registers) (m : List ℕ) (pins k : ℕ) (s : State) → Shows q m pins (length (line_events pins l q) + k) s
    → Plays (line_events pins l q) (Shows (registers_after l q) (cells_after l m) pins k) s
unfolding line_events
line-plays (Fill c0 c1 b0 b1 n) fits q m pins k s shows = fill-plays c0 c1 b0 b1 n fits q m pins k s shows
line-plays (Set f n) fits q m pins k s shows = set-plays f n fits q m pins k s shows

abbrev picture : List ℕ → Registers → Picture
picture m q = record { cells = m; registers = q }

more_room : (q : Registers) (m : List ℕ) (pins k j : ℕ) (s : State) → k ≡ j → Shows q m pins k s → Shows q m pins j s
more_room q m pins k j s e shows = subst (λ (n : ℕ). Shows q m pins n s) e shows

pub list-plays :
    (ls : List Line) → AllFit ls → (q : Registers) (m : List ℕ) (pins k : ℕ) (s : State) → Shows q m pins (length (stream pins ls q) + k) s
    → Plays (stream pins ls q) (Shows (plain_reading ls (picture m q)).registers (plain_reading ls (picture m q)).cells pins k) s
unfolding stream
list-plays [] fit q m pins k s shows = plays-none (Shows q m pins k) s (more_room q m pins (0 + k) k s (omega arith) shows)
list-plays (l ∷ ls) fit q m pins k s shows =
    let q' = registers_after l q in
    let m' = cells_after l m in
    let rest = stream pins ls q' in
    let Q : State → Type 0 = Shows (plain_reading ls (picture m' q')).registers (plain_reading ls (picture m' q')).cells pins k in
    plays-append (line_events pins l q) rest Q s
    (plays-weaken (line_events pins l q) (Shows q' m' pins (length rest + k)) (λ (t : State). Plays rest Q t) s
    (λ t after. list-plays ls fit.1 q' m' pins k t after)
    (line-plays l fit.0 q m pins (length rest + k) s
    (more_room q m pins (length (line_events pins l q ++ rest) + k) (length (line_events pins l q) + (length rest + k)) s
    (ap (λ (n : ℕ). n + k) (length-append (line_events pins l q) rest) ∙ add_assoc (length (line_events pins l q)) (length rest) k) shows)))

-- from any state that 1 and 2 let pass, with true counts of pixels and room in the count
pub demand-3 :
    (ls : List Line) → AllFit ls → (s : State) → Fit s → TrueCounts s → s.count + length (stream s.chip.pins ls (blank s.chip.registers)) < 2 ^ 64
    → Demand3 ls (stream s.chip.pins ls (blank s.chip.registers)) s
demand-3 ls fits s fit t room =
    let q = blank s.chip.registers in
    let pins = s.chip.pins in
    let es = stream pins ls q in
    let start : Shows q s.memory pins (length es + 0) s =
    record {
      full = s.chip.registers;
      visible = record { registers = refl; memory = refl; pins_are = refl; fit = fit; true_counts = t; room = omega (arith, room) };
      same = refl;
    }
    in
    let after = plain_reading ls (picture_of s) in
    let played-all = list-plays ls fits q s.memory pins 0 s start in
    let end = plays-end es (Shows after.registers after.cells pins 0) s played-all in
    record {
      all-good = plays-good es (Shows after.registers after.cells pins 0) s played-all;
      same-picture = λ i. record { cells = end.visible.memory i; registers = (ap blank end.visible.registers ∙ end.same) i };
      same_run = plays-run es (Shows after.registers after.cells pins 0) s fit played-all;
      none_unknown = plays-tally Unknown refl es (Shows after.registers after.cells pins 0) s played-all;
      none_out_of_range = plays-tally OutOfRange refl es (Shows after.registers after.cells pins 0) s played-all;
      true_counts = end.visible.true_counts;
    }

-- ---- a whole text

-- demand 3 of every text whose lines are all accepted
pub text-demand-3 :
    (text : List ℕ) (ls : List Line) → reading_of text ≡ lines ls → (s : State) → Fit s → TrueCounts s
    → s.count + length (stream s.chip.pins ls (blank s.chip.registers)) < 2 ^ 64
    → Demand3 ls (stream s.chip.pins ls (blank s.chip.registers)) s
unfolding reading_of
text-demand-3 text ls e s fit t room = demand-3 ls (all_fit ls (reading-accepted 1 text ls e).within) s fit t room
