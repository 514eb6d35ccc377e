-- What `compile` wrote for a chip draws the list on a bus that has that chip: there, among other chips.
use mathlib.Core.Bool.{true}
use mathlib.Core.List.{List}
use mathlib.Core.Path.{◌≡◌, sym, ap, ◌∙◌, subst}
use Prim.Native.Nat.{ℕ, ◌+◌, ◌^◌, ◌≤◌, ◌<◌}
use lib.ListN.{length, take}
use lib.Seq.{sets}
use Rattle.registers.specs.declared.Chip.{Chip}
use Rattle.registers.specs.Record.{allowed, blank}
use Rattle.registers.proofs.Within.{allowed-registers, allowed-pins}
use Rattle.chip.specs.Promised.{Fit, TrueCounts}
use Rattle.lists.specs.declared.Line.{Line}
use Rattle.lists.specs.Lists.{lines, reading_of}
use Rattle.drawing.specs.Demand3.{Demand3}
use Rattle.drawing.specs.Plain.{picture_of}
use Rattle.drawing.specs.Stream.{stream}
use Rattle.drawing.proofs.Demand3.{text-demand-3}
use Rattle.compiler.specs.Answer.{Done}
use Rattle.compiler.specs.Compile.{Result, compile_of}
use Rattle.compiler.specs.When.{When}
use Rattle.compiler.proofs.Laws.{exactly-when, accepted}
use Rattle.compiler.proofs.Tracked.{blank-tracked}
use Rattle.bus.specs.Bus.{Bus}
use Rattle.bus.specs.Refusals.{BusFit}
use Rattle.bus.specs.Streams.{Sent, events_of, device_with, is_on, chip_on}
use Rattle.bus.proofs.Fits.{fits-alone}
use Rattle.bus.proofs.Picks.{by_pins}
use Rattle.bus.proofs.Plays.{AllLow, plays-on-bus}
use Rattle.bus_drawing.specs.Demand3.{DrawnOnBus, DrawsOnBus}
use Rattle.bus_drawing.proofs.Low.{stream-low}
use Rattle.bus_drawing.proofs.Demand3.{written-there, lines_fit}

-- ---- on a bus

module _ (c : Chip) (text : List ℕ) (ls : List Line) (reads : reading_of text ≡ lines ls) (ok : allowed c ≡ true) where
  abbrev events : List ℕ
  events = stream c.pins ls (blank c.registers)

  -- no sensor reading is among them, nor a reset pulse
  events-low : AllLow events
  events-low =
      stream-low c.pins ls (blank c.registers) (allowed-pins c ok) (lines_fit text ls reads) (blank-tracked c.registers (allowed-registers c ok))

  module _ (b : Bus) (fit : BusFit b.devices) (on : is_on c.pins b.devices ≡ true) (is : (device_with c.pins b.devices).chip ≡ c)
      (t : TrueCounts (chip_on c.pins b)) (room : b.count + length events < 2 ^ 64)
    where
      fits : Fit (chip_on c.pins b)
      fits =
          let there = (by_pins c.pins).stands b.devices on in
          fits-alone b.count b.devices fit there.0 (device_with c.pins b.devices) there.1

      alone-draws : Demand3 ls events (chip_on c.pins b)
      alone-draws =
          subst (λ (x : Chip). Demand3 ls (stream x.pins ls (blank x.registers)) (chip_on c.pins b)) is
          (text-demand-3 text ls reads (chip_on c.pins b) fits t
          (subst (λ (x : Chip). b.count + length (stream x.pins ls (blank x.registers)) < 2 ^ 64) (sym is) room))

      drawn : (xs : List Sent) → events_of xs ≡ events → DrawnOnBus ls xs c.pins b
      drawn xs e =
          let draws : Demand3 ls (events_of xs) (chip_on c.pins b) = subst (λ (es : List ℕ). Demand3 ls es (chip_on c.pins b)) (sym e) alone-draws in
          let plays = plays-on-bus c.pins xs b fit on (subst AllLow (sym e) events-low) draws.all-good in
          record {
            all-good = plays.all-good;
            same-picture = ap picture_of plays.same_chip ∙ draws.same-picture;
            others_kept = plays.others_kept;
            count_after = plays.count_after;
            true_counts = subst TrueCounts (sym plays.same_chip) draws.true_counts;
          }

-- demand 3 on a bus: where the answer is a length, the output's first n events draw the text
pub demand-3-on-bus :
    (c : Chip) (text out : List ℕ) (n k : ℕ) → (compile_of c text out).answer ≡ Done n k → DrawsOnBus c text n (compile_of c text out).out
demand-3-on-bus c text out n k done = go ((exactly-when c text out (Done n k)).0 done)
  where
    go : When c text out (Done n k) → DrawsOnBus c text n (compile_of c text out).out
    go (ok, (es, streams, count, clocks, room)) =
        let out-is : (compile_of c text out).out ≡ sets out 0 es =
        ap (λ (r : Result). r.out) (accepted c text out es ok streams (subst (λ (m : ℕ). m ≤ length out) count room))
        in
        let first : take n (compile_of c text out).out ≡ stream c.pins streams.list (blank c.registers) =
        ap (λ (m : ℕ). take m (compile_of c text out).out) count
        ∙ ap (take (length es)) out-is
        ∙ written-there out es (subst (λ (m : ℕ). m ≤ length out) count room)
        ∙ streams.events
        in
        record {
          list = streams.list;
          reads = streams.reads;
          plays = λ b fit on is t more xs e.
              drawn c text streams.list streams.reads ok.allowed_record b fit on is t
              (subst (λ (m : ℕ). b.count + m < 2 ^ 64) (count ∙ ap length streams.events) more) xs (e ∙ first);
        }
