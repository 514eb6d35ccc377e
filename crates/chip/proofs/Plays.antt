-- Playing: joining, weakening, and what is said of the whole at the end. Then the two kinds of message.
use mathlib.Core.Bool.{true, false}
use mathlib.Core.List.{List, [], ◌∷◌, ◌++◌}
use mathlib.Core.Logic.{inl}
use mathlib.Core.Path.{◌≡◌, refl, sym, ap, ◌∙◌, subst}
use Prim.Native.Nat.{ℕ, zero, suc, ◌+◌, ◌*◌, ◌/◌, ◌%◌, ◌<◌, ◌≤◌}
use native.Mathlib.Nat.{add-zero, zero-add, le_of_suc-le-suc, not-suc-le-zero}
use native.Mathlib.Omega.{arith}
use borrow.Author.Tests.{eq-eqb}
use lib.Dec.{eqb}
use lib.ListN.{get_or, length, set, length-append}
use Rattle.registers.specs.declared.Registers.{Registers}
use Rattle.registers.specs.declared.Phase.{Phase}
use Rattle.registers.specs.declared.Phase.TheVariants.{Idle, AddressAwaited, ControlAwaited, OneByte, EndlessBytes}
use Rattle.registers.specs.State.{State}
use Rattle.engine.specs.Run.{run_of, unless_stopped, run_from}
use Rattle.engine.specs.Event.{is_acknowledged}
use Rattle.phases.specs.Changes.{controlled}
use Rattle.engine.specs.Step.{accepted, acknowledge}
use Rattle.engine.proofs.Refusals.{fit-entry}
use Rattle.phases.specs.Phases.{is_addressed, phase_after_address}
use Rattle.chip.specs.LastWriter.{before}
use Rattle.chip.specs.Plays.{Good, Plays, played, Visible, write_address, singles, message, data_message, Does, Leads, advanced, written, Bytes}
use Rattle.chip.specs.Plays.Leads.{no_more, by}
use Rattle.chip.specs.Phases.{awaits_command}
use Rattle.chip.specs.Promised.{After, Command, Taken, Fit, refusal_of, step_of, outcome, stored_of, place_of, next_address, TrueCounts}
use Rattle.commands.specs.Command.{command_of, answer_to}
use Rattle.chip.specs.When.{ListedEvent}
use Rattle.chip.proofs.Laws.{stays_fit, stays-true, count_law, start-law, stop-law, address-law, control-law, command-law, display-law}
use Rattle.registers.proofs.Below.{true-false}
use Rattle.registers.proofs.Within.{allowed-pins}
use Rattle.chip.proofs.Refusals.{accepted-step, true-accepts}

-- ---- playing

pub plays-none : (Q : State → Type 0) (s : State) → Q s → Plays [] Q s
unfolding Plays
plays-none Q s p = p

pub plays-append : (xs ys : List ℕ) (Q : State → Type 0) (s : State) → Plays xs (λ (t : State). Plays ys Q t) s → Plays (xs ++ ys) Q s
unfolding Plays
plays-append [] ys Q s p = p
plays-append (e ∷ xs) ys Q s p = (p.0, plays-append xs ys Q (step_of e s).state p.1)

pub plays-weaken : (es : List ℕ) (P Q : State → Type 0) (s : State) → ((t : State) → P t → Q t) → Plays es P s → Plays es Q s
unfolding Plays
plays-weaken [] P Q s f p = f s p
plays-weaken (e ∷ es) P Q s f p = (p.0, plays-weaken es P Q (step_of e s).state f p.1)

-- at the end: the claim of the state reached
pub plays-end : (es : List ℕ) (Q : State → Type 0) (s : State) → Plays es Q s → Q (played es s)
unfolding Plays
plays-end [] Q s p = p
plays-end (e ∷ es) Q s p = plays-end es Q (step_of e s).state p.1

-- true counts of pixels stay true
pub played-true : (es : List ℕ) (s : State) → TrueCounts s → TrueCounts (played es s)
played-true [] s t = t
played-true (e ∷ es) s t = played-true es (step_of e s).state (stays-true e s t)

-- ---- one event, seen from outside

-- and the phase besides
record Stands (p : Phase) (r : Registers) (m : List ℕ) (pins n : ℕ) (s : State) : Type 0 where
  visible : Visible r m pins n s
  phase : s.chip.phase ≡ p

module _ (r : Registers) (m : List ℕ) (pins n : ℕ) (s : State) (v : Visible r m pins (suc n) s) where
  accepts : (e : ℕ) → ListedEvent e → refusal_of e s ≡ 0
  accepts e l = true-accepts e s v.fit v.true_counts l (λ q. omega (arith, v.room))

  accepts-byte : (b : ℕ) → b < 256 → refusal_of b s ≡ 0
  accepts-byte b h = accepts b (inl (omega arith))

  -- the chip after the event, where its registers, memory and pins are known
  stands :
      (e : ℕ) → refusal_of e s ≡ 0 → (a : After) → step_of e s ≡ a → (p : Phase) (r' : Registers) (m' : List ℕ)
      → a.state.chip.phase ≡ p → a.state.chip.registers ≡ r' → a.state.memory ≡ m' → a.state.chip.pins ≡ pins
      → Stands p r' m' pins n (step_of e s).state
  stands e h a step p r' m' ep er em epins =
      record {
        visible = record {
          registers = ap (λ (x : After). x.state.chip.registers) step ∙ er;
          memory = ap (λ (x : After). x.state.memory) step ∙ em;
          pins_are = ap (λ (x : After). x.state.chip.pins) step ∙ epins;
          fit = stays_fit e s v.fit;
          true_counts = stays-true e s v.true_counts;
          room = omega (arith, v.room, count_law e s h);
        };
        phase = ap (λ (x : After). x.state.chip.phase) step ∙ ep;
      }

  no_byte : (e : ℕ) → refusal_of e s ≡ 0 → 256 ≤ e → Good e s
  no_byte e h above = record { not_refused = h; acknowledged = λ b. absurd (omega arith); taken = λ b. absurd (omega arith) }

  start-plays : Good 256 s × Stands AddressAwaited r m pins n (step_of 256 s).state
  start-plays =
      let h = accepts 256 (inl (omega arith)) in (
        no_byte 256 h (omega arith),
        stands 256 h _ (start-law s h) AddressAwaited r m refl v.registers v.memory v.pins_are,
      )

  stop-plays : Good 257 s × Stands Idle r m pins n (step_of 257 s).state
  stop-plays =
      let h = accepts 257 (inl (omega arith)) in (
        no_byte 257 h (omega arith),
        stands 257 h _ (stop-law s h) Idle r m refl v.registers v.memory v.pins_are,
      )

  good-byte :
      (b : ℕ) (a : After) → refusal_of b s ≡ 0 → step_of b s ≡ a → is_acknowledged a.answer ≡ true
      → (awaits_command s.chip.phase ≡ true → a.answer ≡ Command Taken) → Good b s
  good-byte b a h step e t =
      record {
        not_refused = h;
        acknowledged = λ _. ap (λ (x : After). is_acknowledged x.answer) step ∙ e;
        taken = λ _ q. ap (λ (x : After). x.answer) step ∙ t q;
      }

  -- a byte in a phase that awaits no command
  good-other : (b : ℕ) (a : After) → refusal_of b s ≡ 0 → step_of b s ≡ a → is_acknowledged a.answer ≡ true → awaits_command s.chip.phase ≡ false → Good b s
  good-other b a h step e n = good-byte b a h step e (λ t. absurd (true-false (sym t ∙ n)))

  address-plays : s.chip.phase ≡ AddressAwaited → Good (write_address pins) s × Stands ControlAwaited r m pins n (step_of (write_address pins) s).state
  unfolding is_addressed phase_after_address acknowledge is_acknowledged
  address-plays e =
      let low : pins ≤ 3 = subst (λ (x : ℕ). x ≤ 3) v.pins_are (allowed-pins s.chip v.fit.is-allowed) in
      let byte : write_address pins < 256 = omega arith in
      let h = accepts-byte (write_address pins) byte in
      let law = address-law s (write_address pins) byte h e in
      let hit : is_addressed s.chip.pins (write_address pins) ≡ true = eq-eqb (write_address pins / 2) (60 + s.chip.pins) (omega (arith, v.pins_are)) in
      let even : eqb (write_address pins % 2) 0 ≡ true = eq-eqb (write_address pins % 2) 0 (omega arith) in (
        good-other (write_address pins) _ h law (simp hit) (ap awaits_command e),
        stands (write_address pins) h _ law ControlAwaited r m (simp (hit, even)) v.registers v.memory v.pins_are,
      )

  single-plays : s.chip.phase ≡ ControlAwaited → Good 128 s × Stands (OneByte false) r m pins n (step_of 128 s).state
  unfolding controlled is_acknowledged
  single-plays e =
      let h = accepts-byte 128 (omega arith) in
      let law = control-law s 128 (omega arith) h e in
      (good-other 128 _ h law refl (ap awaits_command e), stands 128 h _ law (OneByte false) r m refl v.registers v.memory v.pins_are)

  data-plays : s.chip.phase ≡ ControlAwaited → Good 64 s × Stands (EndlessBytes true) r m pins n (step_of 64 s).state
  unfolding controlled is_acknowledged
  data-plays e =
      let h = accepts-byte 64 (omega arith) in
      let law = control-law s 64 (omega arith) h e in
      (good-other 64 _ h law refl (ap awaits_command e), stands 64 h _ law (EndlessBytes true) r m refl v.registers v.memory v.pins_are)

  command-plays : (b : ℕ) (r' : Registers) → Does b r r' → s.chip.phase ≡ OneByte false → Good b s × Stands ControlAwaited r' m pins n (step_of b s).state
  unfolding is_acknowledged
  command-plays b r' does e =
      let h = accepts-byte b does.is-byte in
      let law = command-law s b does.is-byte h (simp e) in
      let left : command_of b s.chip.registers ≡ r' = ap (command_of b) v.registers ∙ does.leaves in
      let answered : answer_to s.chip.registers.h b ≡ Taken = ap (λ (q : Registers). answer_to q.h b) v.registers ∙ does.is-taken in
      (good-byte b _ h law refl (λ _. ap Command answered), stands b h _ law ControlAwaited r' m (simp e) left v.memory v.pins_are)

  display-plays :
      (b : ℕ) → b < 256 → s.chip.phase ≡ EndlessBytes true
      → Good b s × Stands (EndlessBytes true) (next_address r) (set m (place_of r) (stored_of r b)) pins n (step_of b s).state
  unfolding is_acknowledged
  display-plays b byte e =
      let h = accepts-byte b byte in
      let law = display-law s b byte h (simp e) in (
        good-other b _ h law refl (ap awaits_command e),
        stands b h _ law (EndlessBytes true) (next_address r) (set m (place_of r) (stored_of r b)) (simp e) (ap next_address v.registers)
            (simp (v.registers, v.memory)) v.pins_are,
      )

-- ---- messages

-- commands, each after 80h, then whatever plays from there
commands-play :
    {bs : List ℕ} {r r' : Registers} (es : List ℕ) (Q : State → Type 0) (m : List ℕ) (pins n : ℕ) → Leads bs r r'
    → ((t : State) → Stands ControlAwaited r' m pins n t → Plays es Q t)
    → (s : State) → Stands ControlAwaited r m pins (2 * length bs + n) s → Plays (singles bs es) Q s
unfolding Plays
commands-play es Q m pins n (no_more {r = r}) rest s st = rest s (subst (λ (x : ℕ). Stands ControlAwaited r m pins x s) (omega arith) st)
commands-play es Q m pins n (by {b = b} {bs = bs} {r = r} {q = q} does leads) rest s st =
    let two : 2 * suc (length bs) + n ≡ suc (suc (2 * length bs + n)) = omega arith in
    let st' : Stands ControlAwaited r m pins (suc (suc (2 * length bs + n))) s = subst (λ (x : ℕ). Stands ControlAwaited r m pins x s) two st in
    let one = single-plays r m pins (suc (2 * length bs + n)) s st'.visible st'.phase in
    let then = command-plays r m pins (2 * length bs + n) (step_of 128 s).state one.1.visible b q does one.1.phase in
    (one.0, (then.0, commands-play es Q m pins n leads rest _ then.1))

-- display bytes, then whatever plays from there
displays-play :
    (ds es : List ℕ) (Q : State → Type 0) (r : Registers) (m : List ℕ) (pins n : ℕ) → Bytes ds
    → ((t : State) → Stands (EndlessBytes true) (advanced ds r) (written ds r m) pins n t → Plays es Q t)
    → (s : State) → Stands (EndlessBytes true) r m pins (length ds + n) s → Plays (ds ++ es) Q s
unfolding advanced written Plays
displays-play [] es Q r m pins n bytes rest s st = rest s (subst (λ (x : ℕ). Stands (EndlessBytes true) r m pins x s) (omega arith) st)
displays-play (d ∷ ds) es Q r m pins n bytes rest s st =
    let one : suc (length ds) + n ≡ suc (length ds + n) = omega arith in
    let st' : Stands (EndlessBytes true) r m pins (suc (length ds + n)) s = subst (λ (x : ℕ). Stands (EndlessBytes true) r m pins x s) one st in
    let here = display-plays r m pins (length ds + n) s st'.visible d bytes.0 st'.phase in
    (here.0, displays-play ds es Q (next_address r) (set m (place_of r) (stored_of r d)) pins n bytes.1 rest _ here.1)

-- STOP, the last event
stop-ends :
    (p : Phase) (r : Registers) (m : List ℕ) (pins n : ℕ) (s : State) → Stands p r m pins (suc n) s → Plays (257 ∷ []) (Visible r m pins n) s
unfolding Plays
stop-ends p r m pins n s st = let stop = stop-plays r m pins n s st.visible in (stop.0, stop.1.visible)

pub singles-length : (bs es : List ℕ) → length (singles bs es) ≡ 2 * length bs + length es
singles-length [] es = omega arith
singles-length (b ∷ bs) es = omega (arith, singles-length bs es)

-- START and the address, then whatever plays from there
opens :
    (es : List ℕ) (Q : State → Type 0) (r : Registers) (m : List ℕ) (pins n : ℕ)
    → ((t : State) → Stands ControlAwaited r m pins n t → Plays es Q t) → (s : State) → Visible r m pins (suc (suc n)) s → Plays (256 ∷ write_address pins ∷ es) Q s
unfolding Plays
opens es Q r m pins n rest s v =
    let start = start-plays r m pins (suc n) s v in
    let address = address-plays r m pins n (step_of 256 s).state start.1.visible start.1.phase in
    (start.0, (address.0, rest _ address.1))

-- a message of commands takes the registers along them, and leaves the memory as it was
pub message-plays :
    (bs : List ℕ) (r r' : Registers) (m : List ℕ) (pins n : ℕ) → Leads bs r r' → (s : State) → Visible r m pins (length (message pins bs) + n) s
    → Plays (message pins bs) (Visible r' m pins n) s
message-plays bs r r' m pins n leads s v =
    opens (singles bs (257 ∷ [])) (Visible r' m pins n) r m pins (2 * length bs + suc n)
    (commands-play (257 ∷ []) (Visible r' m pins n) m pins (suc n) leads (λ t st. stop-ends ControlAwaited r' m pins n t st))
    s (subst (λ (x : ℕ). Visible r m pins x s) (omega (arith, singles-length bs (257 ∷ []))) v)

-- a message with display bytes stores them where its commands say
pub data-message-plays :
    (bs ds : List ℕ) (r r' : Registers) (m : List ℕ) (pins n : ℕ) → Leads bs r r' → Bytes ds
    → (s : State) → Visible r m pins (length (data_message pins bs ds) + n) s
    → Plays (data_message pins bs ds) (Visible (advanced ds r') (written ds r' m) pins n) s
unfolding Plays
data-message-plays bs ds r r' m pins n leads dbytes s v =
    let Q : State → Type 0 = Visible (advanced ds r') (written ds r' m) pins n in
    opens (singles bs (64 ∷ ds ++ 257 ∷ [])) Q r m pins (2 * length bs + suc (length ds + suc n))
    (commands-play (64 ∷ ds ++ 257 ∷ []) Q m pins (suc (length ds + suc n)) leads
    (λ t st.
    let control = data-plays r' m pins (length ds + suc n) t st.visible st.phase in (
      control.0,
      displays-play ds (257 ∷ []) Q r' m pins (suc n) dbytes (λ u su. stop-ends (EndlessBytes true) (advanced ds r') (written ds r' m) pins n u su)
          (step_of 64 t).state control.1,
    )))
    s
    (subst (λ (x : ℕ). Visible r m pins x s) (omega (arith, singles-length bs (64 ∷ ds ++ 257 ∷ []), length-append ds (257 ∷ []))) v)

-- ---- the whole of what was played

-- every event was good upon the state that it came upon
pub plays-good : (es : List ℕ) (Q : State → Type 0) (s : State) → Plays es Q s → (i : ℕ) → i < length es → Good (get_or es i 0) (before es i s)
unfolding Plays
plays-good [] Q s p i h = absurd (not-suc-le-zero h)
plays-good (e ∷ es) Q s p zero h = p.0
plays-good (e ∷ es) Q s p (suc i) h = plays-good es Q (step_of e s).state p.1 i (le_of_suc-le-suc h)

from-plays : (n : ℕ) (es : List ℕ) (Q : State → Type 0) (s : State) → Plays es Q s → run_from n es s ≡ outcome (n + length es) 0 (played es s)
unfolding Plays run_from
from-plays n [] Q s p = rw add-zero
from-plays n (e ∷ es) Q s p =
    let step = accepted-step e s p.0.not_refused in
    ap (λ (k : ℕ). unless_stopped k n s (run_from (n + 1) es (accepted e s).state)) p.0.not_refused
    ∙ ap (λ (a : After). run_from (n + 1) es a.state) (sym step)
    ∙ from-plays (n + 1) es Q (step_of e s).state p.1
    ∙ ap (λ (k : ℕ). outcome k 0 (played es (step_of e s).state)) (omega arith)

-- the run over the same events ends in the same state, and does them all
pub plays-run : (es : List ℕ) (Q : State → Type 0) (s : State) → Fit s → Plays es Q s → run_of es s ≡ outcome (length es) 0 (played es s)
unfolding run_of
plays-run es Q s fit p =
    ap (λ (k : ℕ). unless_stopped k 0 s (run_from 0 es s)) (fit-entry s fit) ∙ from-plays 0 es Q s p ∙ ap (λ (k : ℕ). outcome k 0 (played es s)) (zero-add (length es))
