-- The line of a display byte says where it is stored, and as what.
use mathlib.Core.Bool.{Bool, true, false, cond}
use mathlib.Core.List.{◌∷◌, ◌++◌}
use mathlib.Core.Path.{◌≡◌, refl, sym, ap, subst, ◌∙◌}
use Prim.Native.Nat.{ℕ, ◌+◌, ◌-◌, ◌<◌, ◌≤◌}
use native.Mathlib.Omega.{arith}
use lib.Dec.{T, eqb}
use lib.ListN.{get_or, length}
use lib.Seq.{get_or-set_same}
use Rattle.registers.specs.declared.Chip.{Chip}
use Rattle.registers.specs.declared.Phase.{Phase}
use Rattle.registers.specs.declared.Phase.TheVariants.{Idle, AddressAwaited, Ignoring, ControlAwaited, OneByte, EndlessBytes, Reading, ReadEnded}
use Rattle.registers.specs.declared.Registers.{Registers}
use Rattle.registers.specs.State.{State}
use Rattle.registers.proofs.Within.{allowed-registers, register-bound}
use Rattle.text.specs.Text.{bytes}
use Rattle.print.specs.Printed.{decimal_of}
use Rattle.display.specs.Display.{stored_of, column_of, place_of}
use Rattle.display.proofs.Address.{place-bound}
use Rattle.engine.specs.declared.event.Event.{Event}
use Rattle.engine.proofs.Events.{byte-event}
use Rattle.chip.specs.Phases.{awaits_data}
use Rattle.chip.specs.Promised.{After, refusal_of}
use Rattle.chip.proofs.Laws.{display-law}
use Rattle.chip.proofs.Refusals.{accepted-when}
use Rattle.event_words.specs.Words.{display_words, byte_words, event_words, what_of}
use Rattle.capture_trace.specs.Told.{DisplayTold}

-- a phase that awaits display data
data-said : (p : Phase) (r : Registers) (b : ℕ) → awaits_data p ≡ true → byte_words p r b ≡ display_words r b
unfolding byte_words
data-said Idle r b t = absurd (subst T (sym t) tt)
data-said AddressAwaited r b t = absurd (subst T (sym t) tt)
data-said Ignoring r b t = absurd (subst T (sym t) tt)
data-said ControlAwaited r b t = absurd (subst T (sym t) tt)
data-said (OneByte false) r b t = absurd (subst T (sym t) tt)
data-said (OneByte true) r b t = refl
data-said (EndlessBytes false) r b t = absurd (subst T (sym t) tt)
data-said (EndlessBytes true) r b t = refl
data-said Reading r b t = absurd (subst T (sym t) tt)
data-said ReadEnded r b t = absurd (subst T (sym t) tt)

byte-said : (b : ℕ) (c : Chip) → b < 256 → what_of b c ≡ byte_words c.phase c.registers b
unfolding event_words
byte-said b c h = ap (λ (v : Event). event_words v c) (byte-event b h)

column-bound : (t : Bool) (x : ℕ) → x ≤ 100 → cond t (100 - x) x ≤ 100
column-bound true x h = omega arith
column-bound false x h = h

pub told : (b : ℕ) (s : State) → b < 256 → awaits_data s.chip.phase ≡ true → refusal_of b s ≡ 0 → DisplayTold b s
unfolding display_words column_of place_of
told b s byte t h =
    let r : Registers = s.chip.registers in
    let fit = (accepted-when b s h).fit in
    let ok = allowed-registers s.chip fit.is-allowed in
    let there = place-bound r ok in
    let law = display-law s b byte h t in
    let in_memory : place_of r < length s.memory = omega (arith, there, fit.memory_long) in
    let in-writers : place_of r < length s.writers = omega (arith, there, fit.writers_long) in
    record {
      column = column_of r;
      bank = r.y;
      column_there = column-bound (eqb r.mx 1) r.x (register-bound r ok 9);
      bank_there = register-bound r ok 10;
      words =
          byte-said b s.chip byte
          ∙ data-said s.chip.phase r b t
          ∙ ap (λ (n : ℕ). bytes "display " ++ (decimal_of (column_of r) ++ 32 ∷ (decimal_of r.y ++ 32 ∷ decimal_of n)))
          (sym (ap (λ (a : After). get_or a.state.memory (place_of r) 0) law ∙ get_or-set_same s.memory (place_of r) (stored_of r b) 0 in_memory));
      writer = ap (λ (a : After). get_or a.state.writers (place_of r) 0) law ∙ get_or-set_same s.writers (place_of r) (s.count + 1) 0 in-writers;
    }
