-- What comes of an event by its kind, where the record is held in parts: no content, or a command.
use mathlib.Core.Bool.{Bool, true, false, cond, ◌&&◌}
use mathlib.Core.List.{List}
use mathlib.Core.Path.{subst, ◌≡◌, refl, ap}
use Prim.Native.Nat.{ℕ, ◌+◌, ◌-◌, ◌^◌, ◌<◌}
use native.Mathlib.Omega.{arith}
use borrow.Author.Tests.{ltb-true, ltb-false, le-leb, ne_eqb}
use lib.Dec.{eqb, ltb}
use Rattle.registers.specs.declared.Phase.{Phase}
use Rattle.registers.specs.declared.Phase.TheVariants.{Idle, AddressAwaited, Ignoring, ControlAwaited, OneByte, EndlessBytes, Reading, ReadEnded}
use Rattle.registers.specs.declared.PixelCounts.{PixelCounts}
use Rattle.registers.specs.declared.Registers.{Registers}
use Rattle.registers.specs.Record.{phase_rs, reset_registers}
use Rattle.registers.specs.Refusals.{is_listed_event}
use Rattle.registers.specs.State.{State, state}
use Rattle.commands.specs.declared.answer.CommandAnswer.{CommandAnswer}
use Rattle.commands.specs.declared.answer.CommandAnswer.TheVariants.{Taken, Unknown, OutOfRange}
use Rattle.commands.specs.Command.{command_of, answer_to, is_taken, counts}
use Rattle.phases.specs.declared.interface.Interface.{Interface}
use Rattle.phases.specs.Interface.{whole, turned}
use Rattle.phases.specs.Phases.{is_addressed, awaits_content, phase_after_content}
use Rattle.engine.specs.Answer.{Command}
use Rattle.engine.specs.declared.event.Event.{Event}
use Rattle.engine.specs.declared.event.Event.TheVariants.{Byte, Start, Stop, ReadAcknowledged, ReadNotAcknowledged, Reset, Sensor, Unlisted}
use Rattle.engine.specs.Event.{event_of, is_byte, counts_as}
use Rattle.engine.specs.Loop.{brings_content, registers_upon}
use Rattle.engine.specs.PastEntry.{refusal_past_entry}
use Rattle.engine.specs.Step.{After, after, acknowledge, on_byte, applied, accepted, counted, event_refusal, pixel_refusal}
use Rattle.engine.proofs.Events.{byte-event, other-event}

-- ---- refusals

pub unlisted-refused : (e : ℕ) (s : State) → is_listed_event e ≡ false → refusal_past_entry e s ≡ 3
unfolding refusal_past_entry event_refusal
unlisted-refused e s h = rw h

-- no display byte: 4 alone is left
other-refusal :
    (e : ℕ) (s : State) → is_listed_event e ≡ true → ltb e 256 && phase_rs s.chip.phase ≡ false → s.count + 1 < 2 ^ 64 → refusal_past_entry e s ≡ 0
unfolding refusal_past_entry event_refusal pixel_refusal
other-refusal e s listed none room =
    rw (listed, none, ne_eqb s.count (2 ^ 64 - 1) (λ (q : s.count ≡ 2 ^ 64 - 1). omega (arith, q, room)))

-- ---- no content

-- display data is content
no-data : (b : Bool) (p : Phase) → b && awaits_content p ≡ false → b && phase_rs p ≡ false
no-data false p h = refl
no-data true Idle h = refl
no-data true AddressAwaited h = refl
no-data true Ignoring h = refl
no-data true ControlAwaited h = refl
no-data true (OneByte rs) h = cc
no-data true (EndlessBytes rs) h = cc
no-data true Reading h = refl
no-data true ReadEnded h = refl

pub quiet-accepted : (e : ℕ) (s : State) → brings_content e s.chip.phase ≡ false → is_listed_event e ≡ true → s.count + 1 < 2 ^ 64 → refusal_past_entry e s ≡ 0
quiet-accepted e s h listed room = other-refusal e s listed (no-data (ltb e 256) s.chip.phase h) room

-- the kind says the same
pub quiet-kind : (e : ℕ) (p : Phase) → brings_content e p ≡ false → is_byte (event_of e) && awaits_content p ≡ false
quiet-kind e p h = go (ltb e 256) refl h
  where
    go : (b : Bool) → ltb e 256 ≡ b → b && awaits_content p ≡ false → is_byte (event_of e) && awaits_content p ≡ false
    go true q n = rw (byte-event e (ltb-true e 256 q)) n
    go false q n = rw (other-event e (ltb-false e 256 q))

-- it is no command
quiet-answers : (v : Event) (s : State) (b : CommandAnswer) → is_byte v && awaits_content s.chip.phase ≡ false → counts_as b (applied v s).answer ≡ 0
unfolding applied acknowledge
quiet-answers (Byte e) s b h = go s.chip.phase h
  where
    told : (t : Bool) → counts_as b (acknowledge t) ≡ 0
    told true = refl
    told false = refl

    go : (p : Phase) → awaits_content p ≡ false → counts_as b (on_byte p e s).answer ≡ 0
    go Idle n = refl
    go AddressAwaited n = told (is_addressed s.chip.pins e)
    go Ignoring n = refl
    go ControlAwaited n = refl
    go (OneByte rs) n = cc
    go (EndlessBytes rs) n = cc
    go Reading n = refl
    go ReadEnded n = refl
quiet-answers Start s b h = refl
quiet-answers Stop s b h = refl
quiet-answers ReadAcknowledged s b h = refl
quiet-answers ReadNotAcknowledged s b h = refl
quiet-answers Reset s b h = refl
quiet-answers (Sensor v) s b h = refl
quiet-answers Unlisted s b h = refl

pub quiet-counts : (e : ℕ) (s : State) (b : CommandAnswer) → brings_content e s.chip.phase ≡ false → counts_as b (accepted e s).answer ≡ 0
unfolding accepted
quiet-counts e s b h = quiet-answers (event_of e) (counted s) b (quiet-kind e s.chip.phase h)

-- only a reset pulse changes registers
pub reset-registers : (e : ℕ) (r r' : Registers) → e ≡ 260 → r' ≡ reset_registers → r' ≡ registers_upon (event_of e) r
reset-registers e r r' q h = rw q h

kept-registers :
    (a b c d f g h : Bool) (x y : ℕ) (r : Registers)
    → r ≡ registers_upon (cond a (Byte x) (cond b Start (cond c Stop (cond d ReadAcknowledged (cond f ReadNotAcknowledged (cond g Unlisted (cond h (Sensor y) Unlisted))))))) r
kept-registers true b c d f g h x y r = refl
kept-registers false true c d f g h x y r = refl
kept-registers false false true d f g h x y r = refl
kept-registers false false false true f g h x y r = refl
kept-registers false false false false true g h x y r = refl
kept-registers false false false false false true h x y r = refl
kept-registers false false false false false false true x y r = refl
kept-registers false false false false false false false x y r = refl

pub same-registers : (e : ℕ) (r : Registers) → (e ≡ 260 → ⊥) → r ≡ registers_upon (event_of e) r
same-registers e r n =
    rw (ne_eqb e 260 n)
    (kept-registers (ltb e 256) (eqb e 256) (eqb e 257) (eqb e 258) (eqb e 259) (ltb e 512) (ltb e 768) e (e - 512) r)

-- what the code made of it, k being the count before it
pub quiet-done :
    (e : ℕ) (v : Event) (r r' : Registers) (i i' : Interface) (n : PixelCounts) (m w : List ℕ) (k k' : ℕ) → v ≡ event_of e → r' ≡ registers_upon (event_of e) r
    → state (whole (registers_upon v r) i' n) m w (k + 1) ≡ (applied v (state (whole r i n) m w (k + 1))).state → k' ≡ k + 1
    → state (whole r' i' n) m w k' ≡ (accepted e (state (whole r i n) m w k)).state
unfolding accepted
quiet-done e v r r' i i' n m w k k' ev er h ek =
    rw (er, ek)
    (subst (λ (x : Event). state (whole (registers_upon x r) i' n) m w (k + 1) ≡ (applied x (state (whole r i n) m w (k + 1))).state) ev h)

-- ---- a command

-- content is a byte
pub content-byte : (e : ℕ) (p : Phase) → brings_content e p ≡ true → e < 256
content-byte e p h = ltb-true e 256 (go (ltb e 256) h)
  where
    go : (b : Bool) → b && awaits_content p ≡ true → b ≡ true
    go true t = refl
    go false t = cc

module _ (e : ℕ) (i : Interface) (r : Registers) (n : PixelCounts) (m w : List ℕ) (count : ℕ) where
  pub command-accepted : brings_content e i.phase ≡ true → phase_rs i.phase ≡ false → count + 1 < 2 ^ 64 → refusal_past_entry e (state (whole r i n) m w count) ≡ 0
  command-accepted h rs room =
      other-refusal e (state (whole r i n) m w count) (listed (ltb e 256) refl h) (go (ltb e 256) (phase_rs i.phase) rs) room
    where
      go : (b c : Bool) → c ≡ false → b && c ≡ false
      go true c f = f
      go false c f = refl

      listed : (b : Bool) → ltb e 256 ≡ b → b && awaits_content i.phase ≡ true → is_listed_event e ≡ true
      listed true q t = rw (le-leb e 260 (omega (arith, ltb-true e 256 q)))
      listed false q t = cc

  pub command-done :
      brings_content e i.phase ≡ true → phase_rs i.phase ≡ false
      → after (Command (answer_to r.h e)) (whole (command_of e r) (turned i (phase_after_content i.phase)) n) m w (count + 1)
      ≡ accepted e (state (whole r i n) m w count)
  unfolding accepted applied
  command-done h rs = go (ltb e 256) refl h
    where
      by-phase :
          (p : Phase) → awaits_content p ≡ true → phase_rs p ≡ false
          → after (Command (answer_to r.h e)) (whole (command_of e r) (turned i (phase_after_content p)) n) m w (count + 1)
          ≡ on_byte p e (counted (state (whole r (turned i p) n) m w count))
      by-phase Idle t f = cc
      by-phase AddressAwaited t f = cc
      by-phase Ignoring t f = cc
      by-phase ControlAwaited t f = cc
      by-phase (OneByte true) t f = cc
      by-phase (OneByte false) t f = refl
      by-phase (EndlessBytes true) t f = cc
      by-phase (EndlessBytes false) t f = refl
      by-phase Reading t f = cc
      by-phase ReadEnded t f = cc

      go :
          (b : Bool) → ltb e 256 ≡ b → b && awaits_content i.phase ≡ true
          → after (Command (answer_to r.h e)) (whole (command_of e r) (turned i (phase_after_content i.phase)) n) m w (count + 1)
          ≡ applied (event_of e) (counted (state (whole r i n) m w count))
      go true q t = rw (byte-event e (ltb-true e 256 q)) (by-phase i.phase t rs)
      go false q t = cc

  -- what the code made of it
  pub command-made :
      (r' : Registers) (i' : Interface) (p : Phase) (k : ℕ) → brings_content e i.phase ≡ true → phase_rs i.phase ≡ false → r' ≡ command_of e r
      → p ≡ phase_after_content i.phase → i' ≡ turned i p → k ≡ count + 1
      → state (whole r' i' n) m w k ≡ (accepted e (state (whole r i n) m w count)).state
  command-made r' i' p k h rs er ep ei ek = rw (er, ei, ep, ek) (ap (λ (x : After). x.state) (command-done h rs))

  pub command-counted :
      (b a : CommandAnswer) (u : ℕ) → brings_content e i.phase ≡ true → phase_rs i.phase ≡ false → a ≡ answer_to r.h e → u ≡ counts b a
      → u ≡ counts_as b (accepted e (state (whole r i n) m w count)).answer
  command-counted b a u h rs ea eu = rw (eu, ea) (ap (λ (x : After). counts_as b x.answer) (command-done h rs))

-- a command that was taken does not count
pub taken-counts-not : (b a : CommandAnswer) → is_taken a ≡ true → is_taken b ≡ false → counts b a ≡ 0
taken-counts-not Unknown Taken t n = refl
taken-counts-not OutOfRange Taken t n = refl
taken-counts-not Taken a t n = cc
taken-counts-not Unknown Unknown t n = cc
taken-counts-not Unknown OutOfRange t n = cc
taken-counts-not OutOfRange Unknown t n = cc
taken-counts-not OutOfRange OutOfRange t n = cc
