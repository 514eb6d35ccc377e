-- Steps through the code of a bus event, over plain variables.
use mathlib.Core.Bool.{Bool, true, false, cond, ◌&&◌}
use mathlib.Core.List.{List, [], ◌∷◌, map}
use mathlib.Core.Path.{◌≡◌, refl, sym, ap, ◌∙◌}
use Prim.Native.Nat.{ℕ, zero, suc, ◌+◌}
use Rattle.registers.specs.State.{State}
use Rattle.commands.specs.declared.answer.CommandAnswer.TheVariants.{Unknown, OutOfRange}
use Rattle.engine.specs.Answer.{Answer, Refused, Nothing}
use Rattle.engine.specs.Event.{event_of}
use Rattle.engine.specs.Loop.{answer_of, commanded_by, command_answered}
use Rattle.engine.specs.PastEntry.{step_past_entry, run_past_entry, tally_past_entry, answer_unless}
use Rattle.engine.specs.Run.{outcome}
use Rattle.engine.specs.Step.{After}
use Rattle.engine.proofs.CodeWays.{told-past}
use Rattle.engine.proofs.PastEntry.{same_step}
use Rattle.engine.proofs.Refusals.{accepts}
use Rattle.bus.specs.Bus.{Device, Bus, bus, At, alone, has_other_pins}
use Rattle.bus.specs.Refusals.{is_sensor_reading, bus_refusal}
use Rattle.bus.specs.Step.{misses, heard_by, device_after, unanswered, or_else, BusAfter, bus_after, bus_accepted, unless_refused, bus_step_of}
use Rattle.bus.proofs.Answers.{heard-as-alone}
use Rattle.bus.proofs.Phases as Phases
use Rattle.bus.proofs.Refusals.{accepted-alone}
use Rattle.bus_step.specs.Part.{Part, part, part_in, part_of, device_by, answer_by}

-- ---- one chip

module _ (e k n : ℕ) (d : Device) (t : Bool) (told : t ≡ is_sensor_reading e) where
  pub missed : t && has_other_pins k d ≡ true → part Nothing d ≡ part_of e k n d
  unfolding part_of
  missed h = let m : misses e k d ≡ true = ap (λ (x : Bool). x && has_other_pins k d) (sym told) ∙ h in rw m

  heard : (a : After) → t && has_other_pins k d ≡ false → a ≡ step_past_entry e (alone n d) → part_in a ≡ part_of e k n d
  unfolding part_of
  heard a h q = let m : misses e k d ≡ false = ap (λ (x : Bool). x && has_other_pins k d) (sym told) ∙ h in ap part_in q ∙ rw m

  -- a run over the one event has come to this
  pub heard-told :
      (s : State) (m r u o : ℕ) (a : Answer) → t && has_other_pins k d ≡ false → outcome m r s ≡ run_past_entry 0 (e ∷ []) (alone n d)
      → u ≡ tally_past_entry Unknown (e ∷ []) (alone n d) → o ≡ tally_past_entry OutOfRange (e ∷ []) (alone n d)
      → a ≡ answer_unless r (commanded_by (command_answered u o) (answer_of (event_of e) d.chip))
      → part_in (record { answer = a; state = s }) ≡ part_of e k n d
  heard-told s m r u o a h is eu eo ea = heard _ h (told-past e (alone n d) s m r u o a is eu eo ea)

-- ---- the four

module _
    (e k n : ℕ) (a b c d : Device) (xa xb xc xd : Part)
    (ea : xa ≡ part_of e k n a) (eb : xb ≡ part_of e k n b) (ec : xc ≡ part_of e k n c) (ed : xd ≡ part_of e k n d)
  where
    pub four-after : xa.device ∷ xb.device ∷ xc.device ∷ xd.device ∷ [] ≡ map (device_by e k n) (a ∷ b ∷ c ∷ d ∷ [])
    four-after = rw (ea, eb, ec, ed)

    pub four-answer :
        (r : Answer) → r ≡ or_else xa.answer (or_else xb.answer (or_else xc.answer (or_else xd.answer (unanswered (event_of e)))))
        → r ≡ answer_by e k n (a ∷ b ∷ c ∷ d ∷ [])
    four-answer r told = told ∙ rw (ea, eb, ec, ed)

same-devices :
    (f g : Device → Device) (a b c d : Device) → f a ≡ g a → f b ≡ g b → f c ≡ g c → f d ≡ g d
    → map f (a ∷ b ∷ c ∷ d ∷ []) ≡ map g (a ∷ b ∷ c ∷ d ∷ [])
same-devices f g a b c d ea eb ec ed = rw (ea, eb, ec, ed)

same-answers :
    (end xa xb xc xd ya yb yc yd : Answer) → xa ≡ ya → xb ≡ yb → xc ≡ yc → xd ≡ yd
    → or_else xa (or_else xb (or_else xc (or_else xd end))) ≡ or_else ya (or_else yb (or_else yc (or_else yd end)))
same-answers end xa xb xc xd ya yb yc yd ea eb ec ed = rw (ea, eb, ec, ed)

-- where the bus accepts the event, a chip's part is what the bus's definition says
module _ (e k : ℕ) (b : Bus) (h : bus_refusal e k b ≡ 0) where
  part-heard : (i : ℕ) (d : Device) → At i d b.devices → part_of e k b.count d ≡ part_in (heard_by e k (b.count + 1) d)
  unfolding part_of
  part-heard i d at = go (misses e k d) refl
    where
      go : (m : Bool) → misses e k d ≡ m → cond m (part Nothing d) (part_in (step_past_entry e (alone b.count d))) ≡ part_in (heard_by e k (b.count + 1) d)
      go true q = ap part_in (sym (Phases.missed e k (b.count + 1) d q))
      go false q =
          let fit = (accepts e (alone b.count d) (accepted-alone e k b h i d at)).fit in
          ap part_in (same_step e (alone b.count d) fit ∙ sym (heard-as-alone e k b h i d at q))

-- ---- the step

unless-refused :
    (x r : ℕ) (a : BusAfter) (b : Bus) → r ≡ x → (r ≡ 0 → ⊥)
    → bus_after (Refused r) b.devices b.count ≡ unless_refused x a b
unless-refused zero r a b e n = absurd (n e)
unless-refused (suc x) r a b e n = ap (λ (y : ℕ). bus_after (Refused y) b.devices b.count) e

module _ (e k n r : ℕ) (a b c d : Device) (told : r ≡ bus_refusal e k (bus (a ∷ b ∷ c ∷ d ∷ []) n)) where
  pub step-refused : (r ≡ 0 → ⊥) → bus_after (Refused r) (a ∷ b ∷ c ∷ d ∷ []) n ≡ bus_step_of e k (bus (a ∷ b ∷ c ∷ d ∷ []) n)
  unfolding bus_step_of
  step-refused h =
      let all = bus (a ∷ b ∷ c ∷ d ∷ []) n in
      unless-refused (bus_refusal e k all) r (bus_accepted e k all) all told h

  pub step-accepted :
      (ds : List Device) (x : Answer) → r ≡ 0 → ds ≡ map (device_by e k n) (a ∷ b ∷ c ∷ d ∷ []) → x ≡ answer_by e k n (a ∷ b ∷ c ∷ d ∷ [])
      → bus_after x ds (n + 1) ≡ bus_step_of e k (bus (a ∷ b ∷ c ∷ d ∷ []) n)
  unfolding bus_step_of bus_accepted
  step-accepted ds x z q t =
      let all = bus (a ∷ b ∷ c ∷ d ∷ []) n in
      let none : bus_refusal e k all ≡ 0 = sym told ∙ z in
      let at0 : part_of e k n a ≡ part_in (heard_by e k (n + 1) a) = part-heard e k all none 0 a refl in
      let at1 : part_of e k n b ≡ part_in (heard_by e k (n + 1) b) = part-heard e k all none 1 b refl in
      let at2 : part_of e k n c ≡ part_in (heard_by e k (n + 1) c) = part-heard e k all none 2 c refl in
      let at3 : part_of e k n d ≡ part_in (heard_by e k (n + 1) d) = part-heard e k all none 3 d refl in
      let device : Part → Device = λ p. p.device in
      let answer : Part → Answer = λ p. p.answer in
      let devices = same-devices (device_by e k n) (device_after e k (n + 1)) a b c d (ap device at0) (ap device at1) (ap device at2) (ap device at3) in
      let answers = same-answers (unanswered (event_of e)) _ _ _ _ _ _ _ _ (ap answer at0) (ap answer at1) (ap answer at2) (ap answer at3) in
      rw (none, q ∙ devices, t ∙ answers)
