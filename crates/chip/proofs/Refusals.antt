-- Exactly when each refusal comes.
use mathlib.Core.Bool.{Bool, true, false, not, ◌&&◌, ◌||◌}
use mathlib.Core.Logic.{inl, inr}
use mathlib.Core.Path.{◌≡◌, refl, sym, ap, ◌∙◌, subst}
use Prim.Native.Nat.{ℕ, ◌-◌, ◌^◌}
use native.Mathlib.Omega.{arith}
use borrow.Author.Tests.{eq-eqb, ne_eqb, eqb-true, eqb-false, le-leb, leb-true, lt-ltb, ltb-true, not-true, not-false}
use lib.Dec.{eqb, leb, ltb}
use lib.ListN.{length}
use Rattle.registers.specs.declared.Phase.{Phase}
use Rattle.registers.specs.declared.Phase.TheVariants.{Idle, AddressAwaited, Ignoring, ControlAwaited, OneByte, EndlessBytes, Reading, ReadEnded}
use Rattle.registers.specs.Record.{allowed, phase_rs}
use Rattle.registers.specs.Refusals.{refuse, ◌then◌, is_listed_event}
use Rattle.registers.specs.State.{State, places}
use Rattle.registers.proofs.Below.{or-true, true-false, false-true}
use Rattle.registers.proofs.Refusals.{refuse-none}
use Rattle.registers.proofs.Within.{both_left, both_right}
use Rattle.pixel_counts.proofs.Laws.{mendable-exactly, unmendable-exactly}
use Rattle.display.specs.Display.{pixels_fit}
use Rattle.engine.specs.Step.{is_display_byte, entry_refusal, event_refusal, pixel_refusal, refusal_of, accepted, step_of}
use Rattle.engine.proofs.Pixels.{true-fit}
use Rattle.chip.specs.Phases.{awaits_data}
use Rattle.chip.specs.Promised.{Fit, TrueCounts}
use Rattle.chip.specs.When.{ListedEvent, Lengths, ComesAsData, CountsStayIn, CountGoesOut, Accepts, When, none, not_long, not_allowed, not_listed, count_full, goes_out}

-- ---- listed events

pub listed-true : (e : ℕ) → ListedEvent e → is_listed_event e ≡ true
listed-true e (inl h) = simp (le-leb e 260 (omega arith))
listed-true e (inr h) = simp (le-leb 512 e (omega (arith, h.0)), le-leb e 767 (omega (arith, h.1))) (or-true (leb e 260))

pub is-listed-event : (e : ℕ) → is_listed_event e ≡ true → ListedEvent e
is-listed-event e = go (leb e 260) (leb 512 e) (leb e 767) refl refl refl
  where
    go : (a b c : Bool) → leb e 260 ≡ a → leb 512 e ≡ b → leb e 767 ≡ c → a || (b && c) ≡ true → ListedEvent e
    go true b c ea eb ec t = inl (omega (arith, leb-true e 260 ea))
    go false true true ea eb ec t = inr (omega (arith, leb-true 512 e eb), omega (arith, leb-true e 767 ec))
    go false true false ea eb ec t = absurd (false-true t)
    go false false c ea eb ec t = absurd (false-true t)

pub listed-false : (e : ℕ) → (ListedEvent e → ⊥) → is_listed_event e ≡ false
listed-false e n = go (is_listed_event e) refl
  where
    go : (t : Bool) → is_listed_event e ≡ t → t ≡ false
    go true q = absurd (n (is-listed-event e q))
    go false q = refl

-- ---- 16

-- RS 1 is that of display data alone
pub data-rs : (p : Phase) → awaits_data p ≡ phase_rs p
data-rs Idle = refl
data-rs AddressAwaited = refl
data-rs Ignoring = refl
data-rs ControlAwaited = refl
data-rs (OneByte rs) = refl
data-rs (EndlessBytes rs) = refl
data-rs Reading = refl
data-rs ReadEnded = refl

-- the test of a display byte whose counts can't be mended
abbrev fits_at : ℕ → State → Bool
fits_at e s = pixels_fit s.chip.registers s.chip.pixels s.memory e

abbrev is_unmendable : ℕ → State → Bool
is_unmendable e s = is_display_byte e s.chip.phase && not (fits_at e s)

module _ (e : ℕ) (s : State) where
  comes-as-data : is_display_byte e s.chip.phase ≡ true → ComesAsData e s
  comes-as-data t =
      record {
        is-byte = ltb-true e 256 (both_left (ltb e 256) (phase_rs s.chip.phase) t);
        is_data = data-rs s.chip.phase ∙ both_right (ltb e 256) (phase_rs s.chip.phase) t;
      }

  data-comes : ComesAsData e s → is_display_byte e s.chip.phase ≡ true
  data-comes c = simp (lt-ltb e 256 c.is-byte, sym (data-rs s.chip.phase) ∙ c.is_data)

  pub no-data : (ComesAsData e s → ⊥) → is_display_byte e s.chip.phase ≡ false
  no-data n = go (is_display_byte e s.chip.phase) refl
    where
      go : (t : Bool) → is_display_byte e s.chip.phase ≡ t → t ≡ false
      go true q = absurd (n (comes-as-data q))
      go false q = refl

  pub goes-out-true : CountGoesOut e s → is_unmendable e s ≡ true
  unfolding pixels_fit
  goes-out-true out = simp (data-comes out.comes, (unmendable-exactly _ _ _ _).1 out.goes)

  true-goes-out : is_unmendable e s ≡ true → CountGoesOut e s
  unfolding pixels_fit
  true-goes-out t =
      record {
        comes = comes-as-data (both_left (is_display_byte e s.chip.phase) _ t);
        goes = (unmendable-exactly _ _ _ _).0 (not-true _ (both_right (is_display_byte e s.chip.phase) _ t));
      }

  pub stay-in-false : CountsStayIn e s → is_unmendable e s ≡ false
  unfolding pixels_fit
  stay-in-false stay = go (is_display_byte e s.chip.phase) refl
    where
      go : (t : Bool) → is_display_byte e s.chip.phase ≡ t → t && not (fits_at e s) ≡ false
      go true q = simp ((mendable-exactly _ _ _ _).1 (stay (comes-as-data q)))
      go false q = refl

  false-stay-in : is_unmendable e s ≡ false → CountsStayIn e s
  unfolding pixels_fit
  false-stay-in f comes =
      (mendable-exactly _ _ _ _).0 (not-false _ (ap (λ (t : Bool). t && not (fits_at e s)) (sym (data-comes comes)) ∙ f))

-- 16 or none
module _ (e : ℕ) (s : State) where
  pub pixels-pass : CountsStayIn e s → pixel_refusal e s.chip s.memory ≡ 0
  unfolding pixel_refusal
  pixels-pass stay = simp (stay-in-false e s stay)

  pub pixels-passed : pixel_refusal e s.chip s.memory ≡ 0 → CountsStayIn e s
  unfolding pixel_refusal
  pixels-passed h = false-stay-in e s (refuse-none (is_unmendable e s) 15 h)

  pub pixels-stop : CountGoesOut e s → pixel_refusal e s.chip s.memory ≡ 0 → ⊥
  unfolding pixel_refusal
  pixels-stop out h = true-false (sym (goes-out-true e s out) ∙ refuse-none (is_unmendable e s) 15 h)

  pub pixels-stopped : (pixel_refusal e s.chip s.memory ≡ 0 → ⊥) → CountGoesOut e s
  unfolding pixel_refusal
  pixels-stopped n = go (is_unmendable e s) refl
    where
      go : (t : Bool) → is_unmendable e s ≡ t → CountGoesOut e s
      go true q = true-goes-out e s q
      go false q = absurd (n (ap (λ (t : Bool). refuse t 16) q))

-- ---- exactly when

-- the order of the tests, and what each outcome says
decided :
    (e : ℕ) (s : State) (m w a l f u : Bool) → eqb (length s.memory) places ≡ m → eqb (length s.writers) places ≡ w → allowed s.chip ≡ a
    → is_listed_event e ≡ l → eqb s.count (2 ^ 64 - 1) ≡ f → is_unmendable e s ≡ u
    → When e s ((refuse (not m || not w) 1 then refuse (not a) 2) then (refuse (not l) 3 then refuse f 4) then refuse u 16)
decided e s false w a l f u em ew ea el ef eu = not_long (λ h. eqb-false _ _ em h.memory_long)
decided e s true false a l f u em ew ea el ef eu = not_long (λ h. eqb-false _ _ ew h.writers_long)
decided e s true true false l f u em ew ea el ef eu = not_allowed (record { memory_long = eqb-true _ _ em; writers_long = eqb-true _ _ ew }) ea
decided e s true true true false f u em ew ea el ef eu =
    not_listed (record { memory_long = eqb-true _ _ em; writers_long = eqb-true _ _ ew; is-allowed = ea }) (λ h. true-false (sym (listed-true e h) ∙ el))
decided e s true true true true true u em ew ea el ef eu =
    count_full (record { memory_long = eqb-true _ _ em; writers_long = eqb-true _ _ ew; is-allowed = ea }) (is-listed-event e el) (eqb-true _ _ ef)
decided e s true true true true false true em ew ea el ef eu =
    goes_out (record { memory_long = eqb-true _ _ em; writers_long = eqb-true _ _ ew; is-allowed = ea }) (eqb-false _ _ ef) (true-goes-out e s eu)
decided e s true true true true false false em ew ea el ef eu =
    none (record {
      fit = record { memory_long = eqb-true _ _ em; writers_long = eqb-true _ _ ew; is-allowed = ea };
      listed = is-listed-event e el;
      room = eqb-false _ _ ef;
      counts_stay_in = false-stay-in e s eu;
    })

pub refusal-when : (e : ℕ) (s : State) → When e s (refusal_of e s)
unfolding refusal_of entry_refusal event_refusal pixel_refusal
refusal-when e s =
    decided e s (eqb (length s.memory) places) (eqb (length s.writers) places) (allowed s.chip) (is_listed_event e) (eqb s.count (2 ^ 64 - 1))
    (is_unmendable e s) refl refl refl refl refl refl

lengths-wrong : (s : State) → (Lengths s → ⊥) → not (eqb (length s.memory) places) || not (eqb (length s.writers) places) ≡ true
lengths-wrong s n = go (eqb (length s.memory) places) (eqb (length s.writers) places) refl refl
  where
    go : (m w : Bool) → eqb (length s.memory) places ≡ m → eqb (length s.writers) places ≡ w → not m || not w ≡ true
    go false w em ew = refl
    go true false em ew = refl
    go true true em ew = absurd (n (record { memory_long = eqb-true _ _ em; writers_long = eqb-true _ _ ew }))

-- the tests in their order, by what each of them says
by_tests :
    (e : ℕ) (s : State) (x a l f u : Bool) → not (eqb (length s.memory) places) || not (eqb (length s.writers) places) ≡ x
    → allowed s.chip ≡ a → is_listed_event e ≡ l → eqb s.count (2 ^ 64 - 1) ≡ f → is_unmendable e s ≡ u
    → refusal_of e s ≡ (refuse x 1 then refuse (not a) 2) then (refuse (not l) 3 then refuse f 4) then refuse u 16
unfolding refusal_of entry_refusal event_refusal pixel_refusal
by_tests e s x a l f u ex ea el ef eu = rw (ex, ea, el, ef, eu)

lengths-right : (s : State) → Lengths s → not (eqb (length s.memory) places) || not (eqb (length s.writers) places) ≡ false
lengths-right s h = simp (eq-eqb _ _ h.memory_long, eq-eqb _ _ h.writers_long)

fit-lengths : (s : State) → Fit s → Lengths s
fit-lengths s fit = record { memory_long = fit.memory_long; writers_long = fit.writers_long }

pub when-so : (e : ℕ) (s : State) (k : ℕ) → When e s k → refusal_of e s ≡ k
when-so e s k (none h) =
    by_tests e s _ _ _ _ _ (lengths-right s (fit-lengths s h.fit)) h.fit.is-allowed (listed-true e h.listed) (ne_eqb _ _ h.room)
    (stay-in-false e s h.counts_stay_in)
when-so e s k (not_long w) = by_tests e s _ _ _ _ _ (lengths-wrong s w) refl refl refl refl
when-so e s k (not_allowed l a) = by_tests e s _ _ _ _ _ (lengths-right s l) a refl refl refl
when-so e s k (not_listed fit w) =
    by_tests e s _ _ _ _ _ (lengths-right s (fit-lengths s fit)) fit.is-allowed (listed-false e w) refl refl
when-so e s k (count_full fit l f) =
    by_tests e s _ _ _ _ _ (lengths-right s (fit-lengths s fit)) fit.is-allowed (listed-true e l) (eq-eqb _ _ f) refl
when-so e s k (goes_out fit r out) =
    by_tests e s _ _ _ _ _ (lengths-right s (fit-lengths s fit)) fit.is-allowed (listed-true e (inl (omega (arith, out.comes.is-byte)))) (ne_eqb _ _ r)
    (goes-out-true e s out)

-- ---- an accepted event

pub accepted-step : (e : ℕ) (s : State) → refusal_of e s ≡ 0 → step_of e s ≡ accepted e s
unfolding step_of
accepted-step e s h = rw h

pub accepted-when : (e : ℕ) (s : State) → refusal_of e s ≡ 0 → Accepts e s
accepted-when e s h = go (subst (When e s) h (refusal-when e s))
  where
    go : When e s 0 → Accepts e s
    go (none accepts) = accepts

-- true counts refuse nothing: what 1 and 2 let pass takes every listed event while the count has room
pub true-accepts : (e : ℕ) (s : State) → Fit s → TrueCounts s → ListedEvent e → (s.count ≡ 2 ^ 64 - 1 → ⊥) → refusal_of e s ≡ 0
unfolding pixels_fit
true-accepts e s fit t listed room =
    when-so e s 0
    (none (record {
      fit = fit;
      listed = listed;
      room = room;
      counts_stay_in = λ comes. (mendable-exactly _ _ _ _).0 (true-fit s fit t e);
    }))
