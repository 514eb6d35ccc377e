-- Events that wires can tell are carried: each by START, STOP or a byte that tells it.
use mathlib.Core.Bool.{Bool, true, false}
use mathlib.Core.List.{List, [], ◌∷◌}
use mathlib.Core.Path.{◌≡◌, refl, sym, ap, ◌∙◌, subst}
use Prim.Native.Nat.{ℕ, ◌<◌}
use native.Mathlib.Omega.{arith}
use borrow.Author.Tests.{eqb-true, eqb-false, leb-true, lt-ltb, ne_eqb}
use lib.Dec.{T, eqb, leb}
use Rattle.text.proofs.Numbers.{and_both}
use Rattle.wire_samples.specs.declared.Stage.{Stage}
use Rattle.wire_samples.specs.declared.Stage.TheVariants.{Outside, Waiting, First, Writing, Reading}
use Rattle.wire_samples.specs.Sample.{is_waiting, read_event}
use Rattle.wire_traffic.specs.Traffic.{byte, is_byte, are_bytes, events_for, stage_on_byte, stage_for, events_by}
use Rattle.wire_traffic.specs.Traffic.{can_tell, stage_told, can_be_told, carried_of, carried_by}

-- ---- the next event, in words

pub data Next (e : ℕ) : Stage → Type 0 where
  is-start : {st : Stage} → e ≡ 256 → Next e st
  is_stop : {st : Stage} → is_waiting st ≡ false → e ≡ 257 → Next e st
  is-first : e < 256 → Next e First
  is-written : e < 256 → Next e Writing
  is_read : (b : Bool) → e ≡ read_event b → Next e Reading

-- START, STOP, or another number
by_number : (e : ℕ) {P : Type 0} → (e ≡ 256 → P) → (e ≡ 257 → P) → ((e ≡ 256 → ⊥) → (e ≡ 257 → ⊥) → P) → P
by_number e {P} is-256 is-257 other = go (eqb e 256) (eqb e 257) refl refl
  where
    go : (t u : Bool) → eqb e 256 ≡ t → eqb e 257 ≡ u → P
    go true u p q = is-256 (eqb-true e 256 p)
    go false true p q = is-257 (eqb-true e 257 q)
    go false false p q = other (eqb-false e 256 p) (eqb-false e 257 q)

next : (st : Stage) (e : ℕ) → can_tell st e ≡ true → Next e st
next Outside e t =
    by_number e is-start (is_stop refl) (λ n m. let none : false ≡ true = rw (ne_eqb e 256 n, ne_eqb e 257 m) at t in absurd (subst T (sym none) tt))
next Waiting e t = is-start (eqb-true e 256 t)
next First e t = by_number e is-start (is_stop refl) (λ n m. is-first (omega (arith, leb-true e 257 t)))
next Writing e t = by_number e is-start (is_stop refl) (λ n m. is-written (omega (arith, leb-true e 257 t)))
next Reading e t = by_number e is-start (is_stop refl) read
  where
    bounds : (leb 256 e ≡ true) × (leb e 259 ≡ true)
    bounds = and_both (leb 256 e) (leb e 259) t

    read : (e ≡ 256 → ⊥) → (e ≡ 257 → ⊥) → Next e Reading
    read n m = go (eqb e 258) refl
      where
        go : (u : Bool) → eqb e 258 ≡ u → Next e Reading
        go true q = is_read false (eqb-true e 258 q)
        go false q =
            let other : e ≡ 258 → ⊥ = eqb-false e 258 q in
            is_read true (omega (arith, leb-true 256 e bounds.0, leb-true e 259 bounds.1))

-- ---- what carries it

-- it tells the event, and leads to the stage after it
pub record Carries (st : Stage) (e : ℕ) : Type 0 where
  pub events : events_for st (carried_of e) ≡ e ∷ []
  pub stage : stage_for st (carried_of e) ≡ stage_told st e
  pub value : is_byte (carried_of e) ≡ true

-- a number below 256 is a byte's value, at every stage
module _ (e : ℕ) (h : e < 256) where
  not_start : eqb e 256 ≡ false
  not_start = ne_eqb e 256 (λ q. omega arith)

  not-stop : eqb e 257 ≡ false
  not-stop = ne_eqb e 257 (λ q. omega arith)

  written : carried_of e ≡ byte e false
  written = rw (not_start, not-stop, ne_eqb e 258 (λ q. omega arith), ne_eqb e 259 (λ q. omega arith))

  pub value-told : (st : Stage) → stage_told st e ≡ stage_on_byte st e
  value-told st = rw (not_start, not-stop)

  written-value : is_byte (carried_of e) ≡ true
  written-value = ap is_byte written ∙ lt-ltb e 256 h

carries : (st : Stage) (e : ℕ) → Next e st → Carries st e
unfolding events_for stage_for
carries st e (is-start q) = rw q (record { events = refl; stage = refl; value = refl })
carries st e (is_stop n q) = rw q (record { events = rw n; stage = rw n; value = refl })
carries st e (is-first h) =
    record {
      events = ap (events_for First) (written e h);
      stage = ap (stage_for First) (written e h) ∙ sym (value-told e h First);
      value = written-value e h;
    }
carries st e (is-written h) =
    record {
      events = ap (events_for Writing) (written e h);
      stage = ap (stage_for Writing) (written e h) ∙ sym (value-told e h Writing);
      value = written-value e h;
    }
carries st e (is_read true q) = rw q (record { events = refl; stage = refl; value = refl })
carries st e (is_read false q) = rw q (record { events = refl; stage = refl; value = refl })

-- ---- one after the other

pub carried-bytes : (st : Stage) (es : List ℕ) → can_be_told st es ≡ true → are_bytes (carried_by es) ≡ true
unfolding can_be_told are_bytes
carried-bytes st [] t = refl
carried-bytes st (e ∷ es) t =
    let both = and_both (can_tell st e) (can_be_told (stage_told st e) es) t in
    rw (carries st e (next st e both.0)).value (carried-bytes (stage_told st e) es both.1)

pub carried-events : (st : Stage) (es : List ℕ) → can_be_told st es ≡ true → events_by st (carried_by es) ≡ es
unfolding can_be_told events_by
carried-events st [] t = refl
carried-events st (e ∷ es) t =
    let both = and_both (can_tell st e) (can_be_told (stage_told st e) es) t in
    let one = carries st e (next st e both.0) in
    rw (one.events, one.stage) (ap (λ (l : List ℕ). e ∷ l) (carried-events (stage_told st e) es both.1))
