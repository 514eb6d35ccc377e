-- Which chip answers: who is past its address, and the answers one after the other.
use mathlib.Core.Bool.{Bool, true, false, cond, ◌&&◌, ◌||◌}
use mathlib.Core.List.{List, [], ◌∷◌}
use mathlib.Core.Logic.{◌⊎◌, inl, inr}
use mathlib.Core.Path.{◌≡◌, refl, sym, ap, ◌∙◌, subst}
use Prim.Native.Nat.{ℕ, zero, suc, ◌<◌}
use native.Mathlib.Omega.{arith}
use borrow.Author.Tests.{eqb-true, lt-leb}
use lib.Dec.{eqb}
use Rattle.registers.specs.declared.Phase.{Phase}
use Rattle.registers.specs.declared.Phase.TheVariants.{Idle, AddressAwaited, Ignoring, ControlAwaited, OneByte, EndlessBytes, Reading, ReadEnded}
use Rattle.registers.specs.State.{State}
use Rattle.registers.proofs.Below.{false-true, true-false}
use Rattle.phases.specs.Changes.{read_byte}
use Rattle.phases.specs.Phases.{is_addressed, is_reading}
use Rattle.engine.specs.Answer.{Answer, Refused, Nothing, Acknowledged, NotAcknowledged, Command, Read}
use Rattle.engine.specs.declared.event.Event.{Event}
use Rattle.engine.specs.declared.event.Event.TheVariants.{Byte, Start, Stop, ReadAcknowledged, ReadNotAcknowledged, Reset, Sensor, Unlisted}
use Rattle.engine.specs.Event.{event_of, is_acknowledged}
use Rattle.engine.specs.Step.{After, nothing_stored, acknowledge, on_byte, applied}
use Rattle.engine.proofs.Events.{byte-event}
use Rattle.chip.specs.Phases.{awaits_command}
use Rattle.bus.specs.Answers.{IsRead}
use Rattle.bus.specs.Bus.{Device, At, Somewhere, alone, has_other_pins, is_past_phase, is_past}
use Rattle.bus.specs.Refusals.{is_sensor_reading}
use Rattle.bus.specs.Step.{misses, heard_by, unanswered, or_else, answer_of}
use Rattle.bus.specs.When.{OthersIgnore, Sound, AllIn}
use Rattle.bus.proofs.Every.{or_left, or_right}
use Rattle.bus.proofs.Phases.{not-missed}

-- ---- who is past its address

-- two devices past their address are one
pub one-past-place :
    (ds : List Device) → Sound ds → (i j : ℕ) (c d : Device) → At i c ds → At j d ds → is_past c ≡ true → is_past d ≡ true → i ≡ j
one-past-place ds sound i j c d a b p q = go sound.sharing.together
  where
    go : AllIn Idle ds ⊎ (AllIn AddressAwaited ds ⊎ OthersIgnore ds) → i ≡ j
    go (inl t) = absurd (false-true (sym (ap is_past_phase (t i c a)) ∙ p))
    go (inr (inl t)) = absurd (false-true (sym (ap is_past_phase (t i c a)) ∙ p))
    go (inr (inr t)) = t.one-past i j c d a b p q

-- where one is, the others ignore
pub others-ignoring :
    (ds : List Device) → Sound ds → (i : ℕ) (d : Device) → At i d ds → is_past d ≡ true
    → (j : ℕ) (c : Device) → At j c ds → (j ≡ i → ⊥) → c.chip.phase ≡ Ignoring
others-ignoring ds sound i d a p j c b other = go sound.sharing.together
  where
    told : (c.chip.phase ≡ Ignoring) ⊎ (is_past c ≡ true) → c.chip.phase ≡ Ignoring
    told (inl q) = q
    told (inr q) = absurd (other (one-past-place ds sound j i c d b a q p))

    go : AllIn Idle ds ⊎ (AllIn AddressAwaited ds ⊎ OthersIgnore ds) → c.chip.phase ≡ Ignoring
    go (inl t) = absurd (false-true (sym (ap is_past_phase (t i d a)) ∙ p))
    go (inr (inl t)) = absurd (false-true (sym (ap is_past_phase (t i d a)) ∙ p))
    go (inr (inr t)) = told (t.ignoring_or_past j c b)

pub reading-past : (p : Phase) → is_reading p ≡ true → is_past_phase p ≡ true
reading-past Idle t = t
reading-past AddressAwaited t = t
reading-past Ignoring t = t
reading-past ControlAwaited t = refl
reading-past (OneByte rs) t = refl
reading-past (EndlessBytes rs) t = refl
reading-past Reading t = refl
reading-past ReadEnded t = refl

pub command-past : (p : Phase) → awaits_command p ≡ true → is_past_phase p ≡ true
command-past Idle t = t
command-past AddressAwaited t = t
command-past Ignoring t = t
command-past ControlAwaited t = refl
command-past (OneByte rs) t = refl
command-past (EndlessBytes rs) t = refl
command-past Reading t = refl
command-past ReadEnded t = refl

-- ---- the answers one after the other

-- the bus says what one chip says, or what is heard where none answers
or-one : (a r : Answer) → (or_else a r ≡ a) ⊎ (or_else a r ≡ r)
or-one (Refused n) r = inl refl
or-one Nothing r = inr refl
or-one Acknowledged r = inl refl
or-one NotAcknowledged r = inr refl
or-one (Command c) r = inl refl
or-one (Read b) r = go (eqb b 255)
  where
    go : (t : Bool) → (cond t r (Read b) ≡ Read b) ⊎ (cond t r (Read b) ≡ r)
    go true = inr refl
    go false = inl refl

pub no-reading : (e : ℕ) → e < 512 → is_sensor_reading e ≡ false
no-reading e l = rw (lt-leb 512 e l)

pub misses-none : (e k : ℕ) → is_sensor_reading e ≡ false → (d : Device) → misses e k d ≡ false
misses-none e k t d = ap (λ (x : Bool). x && has_other_pins k d) t

module _ (e k n : ℕ) where
  abbrev pub Says : Answer → Device → Type 0
  Says x d = (heard_by e k n d).answer ≡ x

  pub answered-by : (ds : List Device) → (answer_of e k n ds ≡ unanswered (event_of e)) ⊎ Somewhere (Says (answer_of e k n ds)) ds
  answered-by [] = inl refl
  answered-by (d ∷ ds) = go (or-one (heard_by e k n d).answer (answer_of e k n ds)) (answered-by ds)
    where
      all : Answer
      all = answer_of e k n (d ∷ ds)

      go :
          (all ≡ (heard_by e k n d).answer) ⊎ (all ≡ answer_of e k n ds)
          → (answer_of e k n ds ≡ unanswered (event_of e)) ⊎ Somewhere (Says (answer_of e k n ds)) ds
          → (all ≡ unanswered (event_of e)) ⊎ Somewhere (Says all) (d ∷ ds)
      go (inl q) rest = inr (record { place = 0; which = d; stands = refl; so = sym q })
      go (inr q) (inl r) = inl (q ∙ r)
      go (inr q) (inr s) = inr (record { place = suc s.place; which = s.which; stands = s.stands; so = s.so ∙ sym q })

  -- a device that leaves the answer to the others
  abbrev pub Quiet : Device → Type 0
  Quiet d = (r : Answer) → or_else (heard_by e k n d).answer r ≡ r

  pub quiet_all : (ds : List Device) → ((i : ℕ) (d : Device) → At i d ds → Quiet d) → answer_of e k n ds ≡ unanswered (event_of e)
  quiet_all [] h = refl
  quiet_all (x ∷ ds) h = h 0 x refl (answer_of e k n ds) ∙ quiet_all ds (λ i. h (suc i))

  -- where all others do, the bus says what this one says
  pub one-speaks :
      (ds : List Device) (i : ℕ) (d : Device) → At i d ds → ((j : ℕ) (c : Device) → At j c ds → (j ≡ i → ⊥) → Quiet c)
      → answer_of e k n ds ≡ or_else (heard_by e k n d).answer (unanswered (event_of e))
  one-speaks [] i d a h = absurd a
  one-speaks (x ∷ ds) zero d a h =
      ap (λ (y : Device). or_else (heard_by e k n y).answer (answer_of e k n ds)) a
      ∙ ap (or_else (heard_by e k n d).answer) (quiet_all ds (λ j c b. h (suc j) c b (λ q. omega arith)))
  one-speaks (x ∷ ds) (suc i) d a h =
      h 0 x refl (λ q. omega arith) (answer_of e k n ds) ∙ one-speaks ds i d a (λ j c b m. h (suc j) c b (λ q. m (omega arith)))

  -- an event that is no sensor reading is heard as by a chip alone
  pub heard-by-all : is_sensor_reading e ≡ false → (d : Device) → heard_by e k n d ≡ applied (event_of e) (alone n d)
  heard-by-all t d = not-missed e k n d (misses-none e k t d)

-- ---- a byte

-- the answers to a byte
abbrev pub ToByte : Answer → Type 0
ToByte (Refused n) = ⊥
ToByte Nothing = ⊥
ToByte Acknowledged = Unit
ToByte NotAcknowledged = Unit
ToByte (Command c) = Unit
ToByte (Read b) = ⊥

address-answer : (t : Bool) → ToByte (acknowledge t)
unfolding acknowledge
address-answer true = tt
address-answer false = tt

byte-answer : (p : Phase) (b : ℕ) (s : State) → ToByte (on_byte p b s).answer
byte-answer Idle b s = tt
byte-answer AddressAwaited b s = address-answer (is_addressed s.chip.pins b)
byte-answer Ignoring b s = tt
byte-answer ControlAwaited b s = tt
byte-answer (OneByte true) b s = tt
byte-answer (OneByte false) b s = tt
byte-answer (EndlessBytes true) b s = tt
byte-answer (EndlessBytes false) b s = tt
byte-answer Reading b s = tt
byte-answer ReadEnded b s = tt

acknowledged-or : (a r : Answer) → ToByte a → is_acknowledged (or_else a r) ≡ is_acknowledged a || is_acknowledged r
unfolding is_acknowledged
acknowledged-or (Refused n) r t = absurd t
acknowledged-or Nothing r t = absurd t
acknowledged-or Acknowledged r t = refl
acknowledged-or NotAcknowledged r t = refl
acknowledged-or (Command c) r t = refl
acknowledged-or (Read b) r t = absurd t

or-to-byte : (a r : Answer) → ToByte a → ToByte r → ToByte (or_else a r)
or-to-byte (Refused n) r t u = absurd t
or-to-byte Nothing r t u = absurd t
or-to-byte Acknowledged r t u = tt
or-to-byte NotAcknowledged r t u = u
or-to-byte (Command c) r t u = tt
or-to-byte (Read b) r t u = absurd t

-- of the answers to a byte one is no acknowledge
pub no-acknowledge : (a : Answer) → ToByte a → is_acknowledged a ≡ false → a ≡ NotAcknowledged
unfolding is_acknowledged
no-acknowledge (Refused n) t q = absurd t
no-acknowledge Nothing t q = absurd t
no-acknowledge Acknowledged t q = absurd (true-false q)
no-acknowledge NotAcknowledged t q = refl
no-acknowledge (Command c) t q = absurd (true-false q)
no-acknowledge (Read b) t q = absurd t

module _ (e k n : ℕ) (byte : e < 256) where
  pub heard-byte : (d : Device) → heard_by e k n d ≡ on_byte d.chip.phase e (alone n d)
  unfolding applied
  heard-byte d = heard-by-all e k n (no-reading e (omega arith)) d ∙ ap (λ (v : Event). applied v (alone n d)) (byte-event e byte)

  pub one-acknowledges :
      (ds : List Device) (i : ℕ) (d : Device) → At i d ds → is_acknowledged (heard_by e k n d).answer ≡ true → is_acknowledged (answer_of e k n ds) ≡ true
  one-acknowledges [] i d a t = absurd a
  one-acknowledges (x ∷ ds) i d a t =
      acknowledged-or (heard_by e k n x).answer (answer_of e k n ds)
      (subst (λ (y : After). ToByte y.answer) (sym (heard-byte x)) (byte-answer x.chip.phase e (alone n x)))
      ∙ go i a (λ j b. one-acknowledges ds j d b t)
    where
      go :
          (i : ℕ) → At i d (x ∷ ds) → ((j : ℕ) → At j d ds → is_acknowledged (answer_of e k n ds) ≡ true)
          → is_acknowledged (heard_by e k n x).answer || is_acknowledged (answer_of e k n ds) ≡ true
      go zero a rest = or_left _ _ (ap (λ (y : Device). is_acknowledged (heard_by e k n y).answer) a ∙ t)
      go (suc j) a rest = or_right (is_acknowledged (heard_by e k n x).answer) _ (rest j a)

  -- the bus answers a byte as a chip does
  pub to-byte : (ds : List Device) → ToByte (answer_of e k n ds)
  to-byte [] = rw (byte-event e byte) tt
  to-byte (d ∷ ds) =
      or-to-byte (heard_by e k n d).answer (answer_of e k n ds)
      (subst (λ (y : After). ToByte y.answer) (sym (heard-byte d)) (byte-answer d.chip.phase e (alone n d))) (to-byte ds)

  -- what is heard of a byte where no chip takes it
  pub none-acknowledges : is_acknowledged (unanswered (event_of e)) ≡ false
  unfolding is_acknowledged
  none-acknowledges = rw (byte-event e byte)

-- ---- answers that never come

-- what is heard where no chip answers is neither a refusal nor an answer to a command
abbrev pub Silent : Answer → Type 0
Silent (Refused n) = ⊥
Silent Nothing = Unit
Silent Acknowledged = Unit
Silent NotAcknowledged = Unit
Silent (Command c) = ⊥
Silent (Read b) = Unit

pub unanswered-silent : (v : Event) → Silent (unanswered v)
unanswered-silent (Byte b) = tt
unanswered-silent Start = tt
unanswered-silent Stop = tt
unanswered-silent ReadAcknowledged = tt
unanswered-silent ReadNotAcknowledged = tt
unanswered-silent Reset = tt
unanswered-silent (Sensor v) = tt
unanswered-silent Unlisted = tt

abbrev pub Unrefused : Answer → Type 0
Unrefused (Refused n) = ⊥
Unrefused Nothing = Unit
Unrefused Acknowledged = Unit
Unrefused NotAcknowledged = Unit
Unrefused (Command c) = Unit
Unrefused (Read b) = Unit

byte-unrefused : (a : Answer) → ToByte a → Unrefused a
byte-unrefused (Refused n) t = t
byte-unrefused Nothing t = tt
byte-unrefused Acknowledged t = tt
byte-unrefused NotAcknowledged t = tt
byte-unrefused (Command c) t = tt
byte-unrefused (Read b) t = tt

applied-unrefused : (v : Event) (s : State) → Unrefused (applied v s).answer
unfolding applied
applied-unrefused (Byte b) s = byte-unrefused (on_byte s.chip.phase b s).answer (byte-answer s.chip.phase b s)
applied-unrefused Start s = tt
applied-unrefused Stop s = tt
applied-unrefused ReadAcknowledged s = tt
applied-unrefused ReadNotAcknowledged s = tt
applied-unrefused Reset s = tt
applied-unrefused (Sensor v) s = tt
applied-unrefused Unlisted s = tt

pub heard-unrefused : (e k n : ℕ) (d : Device) → Unrefused (heard_by e k n d).answer
unfolding heard_by
heard-unrefused e k n d = go (misses e k d)
  where
    go : (t : Bool) → Unrefused (cond t (nothing_stored Nothing d.chip (alone n d)) (applied (event_of e) (alone n d))).answer
    go true = tt
    go false = applied-unrefused (event_of e) (alone n d)

-- ---- reads

-- a chip that is not reading gives 255
unread : (d : Device) → is_reading d.chip.phase ≡ false → read_byte d.chip ≡ 255
unfolding read_byte
unread d t = rw t

pub read-or : (v : ℕ) (t : Bool) → eqb v 255 ≡ t → cond t (Read 255) (Read v) ≡ Read v
read-or v true q = ap Read (sym (eqb-true v 255 q))
read-or v false q = refl

module _ (e k n : ℕ) (read : IsRead e) where
  pub heard-read : (d : Device) → (heard_by e k n d).answer ≡ Read (read_byte d.chip)
  unfolding heard_by applied
  heard-read d = go read
    where
      go : IsRead e → (heard_by e k n d).answer ≡ Read (read_byte d.chip)
      go (inl q) = rw q
      go (inr q) = rw q

  pub unread-quiet : (d : Device) → is_reading d.chip.phase ≡ false → Quiet e k n d
  unread-quiet d t r = ap (λ (a : Answer). or_else a r) (heard-read d ∙ ap Read (unread d t))

  pub none_read : unanswered (event_of e) ≡ Read 255
  none_read = go read
    where
      go : IsRead e → unanswered (event_of e) ≡ Read 255
      go (inl q) = rw q
      go (inr q) = rw q
