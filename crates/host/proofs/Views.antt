-- The calls that look at the glass are refused exactly when the documents say, and then change nothing; what they give for a level, and its pulses.
use mathlib.Core.Path.{◌≡◌, refl, sym, ap, ◌∙◌}
use mathlib.Core.Bool.{Bool, true, false, cond, not, ◌||◌}
use mathlib.Core.List.{List}
use mathlib.Core.Logic.{◌⊎◌, ◌↔◌}
use Prim.Native.Nat.{ℕ, suc, ◌+◌, ◌*◌, ◌/◌, ◌%◌, ◌^◌, ◌<◌}
use native.Mathlib.Omega.{arith}
use native.Mathlib.Nat.{suc-ne-zero}
use lib.Dec.{eqb}
use lib.ListN.{length}
use Rattle.registers.specs.Refusals.{refuse, ◌then◌}
use Rattle.registers.specs.State.{places}
use Rattle.registers.proofs.Refusals.{then-zero}
use Rattle.record_words.specs.Words.{stands_for, chip_of}
use Rattle.std.specs.Prelude.{Result, Ok, Err}
use Rattle.glass.specs.declared.answer.Shown.{Shown}
use Rattle.glass.specs.declared.answer.Shown.TheVariants as shown
use Rattle.glass.specs.Pixel.{place_at}
use Rattle.glass.specs.Answer.{shown_number}
use Rattle.glass.specs.Glass as glass
use Rattle.glass.specs.Glass.{ram_row_of, cell_of, shown_at, glass_of}
use Rattle.glass.specs.When.{LitBy}
use Rattle.glass.proofs.Refusals.{glass-exactly}
use Rattle.glass.proofs.Laws.{level-within, level-64-when, level-number}
use Rattle.pulses.specs.Pulse.{pulse, pulses_for, pulses_of}
use Rattle.pulses.specs.Answer.{pulses_number}
use Rattle.pulses.specs.When.{IsLit}
use Rattle.pulses.specs.Row as pulses
use Rattle.pulses.specs.Row.{row_bytes, buffer_refusal, pulse_row, row_of}
use Rattle.pulses.proofs.Laws.{number-dark, number-undriven, number-lit, number-pulse}
use Rattle.host.specs.Calls.{no_record_for}
use Rattle.host.specs.Views.{glass_call, place_call, place_refusal, glass_refusal}
use Rattle.host.specs.Pulses.{pulses_call, pulse_row_call, row_refusal}
use Rattle.record_words.proofs.Laws.{stands-allowed}

-- what neither 1 nor 2 is, a call says only for words that stand for a record, and then of its own number x
given-where :
    (ws m : List ℕ) (x : ℕ) (P : ℕ → Type 0) → (P 1 → ⊥) → (P 2 → ⊥) → P (cond (stands_for ws) x (no_record_for (length m) places))
    → (stands_for ws ≡ true) × P x
given-where ws m x P not-1 not-2 = go (stands_for ws) refl
  where
    none : (l : Bool) → P (refuse (not l || false) 1 then 2) → ⊥
    none true p = not-2 p
    none false p = not-1 p

    go : (t : Bool) → stands_for ws ≡ t → P (cond t x (no_record_for (length m) places)) → (stands_for ws ≡ true) × P x
    go true h p = (h, p)
    go false h p = absurd (none (eqb (length m) places) p)

given_by : (ws m : List ℕ) (x n : ℕ) → 2 < n → cond (stands_for ws) x (no_record_for (length m) places) ≡ n → (stands_for ws ≡ true) × (x ≡ n)
given_by ws m x n above = given-where ws m x (λ k. k ≡ n) (λ e. omega (arith, e)) (λ e. omega (arith, e))

module _ (row column : ℕ) (ws : List ℕ) where
  place-of-chip : stands_for ws ≡ true → glass.place_refusal (chip_of ws) row column ≡ place_refusal row column ws
  unfolding glass.place_refusal
  place-of-chip h = rw (stands-allowed ws h, h)

  pub place-refused : (k : ℕ) → place_refusal row column ws ≡ suc k → place_call row column ws ≡ suc k
  unfolding place_call cell_of
  place-refused k r = go (stands_for ws) refl
    where
      go : (t : Bool) → stands_for ws ≡ t → place_call row column ws ≡ suc k
      go true h = rw (h, place-of-chip h ∙ r)
      go false h = rw h (rw h at r)

  pub place-shown : place_refusal row column ws ≡ 0 → place_call row column ws ≡ 512 + place_at (ram_row_of (chip_of ws) row) column
  unfolding place_call cell_of
  place-shown r = go (stands_for ws) refl
    where
      go : (t : Bool) → stands_for ws ≡ t → place_call row column ws ≡ 512 + place_at (ram_row_of (chip_of ws) row) column
      go true h = rw (h, place-of-chip h ∙ r)
      go false h = absurd (suc-ne-zero 1 (rw h at r))

  module _ (m : List ℕ) where
    glass-of-chip : stands_for ws ≡ true → glass.glass_refusal (chip_of ws) (length m) row column ≡ glass_refusal row column ws m
    unfolding glass.glass_refusal
    glass-of-chip h = ap (λ (k : ℕ). refuse (not (eqb (length m) places)) 1 then k) (place-of-chip h)

    -- words that stand for no record: 1 where the memory has another length, else 2
    glass-of-none : stands_for ws ≡ false → no_record_for (length m) places ≡ glass_refusal row column ws m
    glass-of-none h = rw h (go (eqb (length m) places))
      where
        go : (l : Bool) → refuse (not l || false) 1 then 2 ≡ refuse (not l) 1 then 2
        go true = refl
        go false = refl

    glass-never-none : (l : Bool) → refuse (not l) 1 then 2 ≡ 0 → ⊥
    glass-never-none true e = suc-ne-zero 1 e
    glass-never-none false e = suc-ne-zero 0 e

    -- whichever number a call has for what is shown, that of a refusal is its own
    refused-by-its-number :
        (number : Result Shown ℕ → ℕ) → ((j : ℕ) → number (Err j) ≡ j) → (k : ℕ) → glass_refusal row column ws m ≡ suc k
        → cond (stands_for ws) (number (glass_of (chip_of ws) m row column)) (no_record_for (length m) places) ≡ suc k
    unfolding glass_of
    refused-by-its-number number own k r = go (stands_for ws) refl
      where
        go :
            (t : Bool) → stands_for ws ≡ t
            → cond (stands_for ws) (number (glass_of (chip_of ws) m row column)) (no_record_for (length m) places) ≡ suc k
        go true h = rw (h, glass-of-chip h ∙ r) (own (suc k))
        go false h = rw h (glass-of-none h ∙ r)

    pub glass-refused : (k : ℕ) → glass_refusal row column ws m ≡ suc k → glass_call row column ws m ≡ suc k
    unfolding glass_call
    glass-refused = refused-by-its-number shown_number (λ j. refl)

    stands-unless-refused : glass_refusal row column ws m ≡ 0 → stands_for ws ≡ true
    stands-unless-refused r = go (stands_for ws) refl
      where
        go : (t : Bool) → stands_for ws ≡ t → t ≡ true
        go true h = refl
        go false h = absurd (glass-never-none (eqb (length m) places) (rw h at r))

    pub glass-shown :
        glass_refusal row column ws m ≡ 0 → glass_call row column ws m ≡ shown_number (Ok (shown_at (chip_of ws).registers m (ram_row_of (chip_of ws) row) column))
    unfolding glass_call glass_of
    glass-shown r = let h = stands-unless-refused r in rw (h, glass-of-chip h ∙ r)

    -- 512 + g is given exactly where the glass shows level g
    pub glass-level : (g : ℕ) → (glass_call row column ws m ≡ 512 + g) ↔ ((stands_for ws ≡ true) × (glass_of (chip_of ws) m row column ≡ Ok (shown.Level g)))
    unfolding glass_call
    glass-level g = (
      λ e. let given = given_by ws m _ (512 + g) (omega arith) e in (given.0, (level-number (chip_of ws) m row column g).0 given.1),
      λ w. rw (w.0, w.1),
    )

    -- which is 0 to 62, or 64
    pub glass-level-within : (g : ℕ) → glass_call row column ws m ≡ 512 + g → (g < 63) ⊎ (g ≡ 64)
    glass-level-within g e = level-within (chip_of ws) m row column g ((glass-level g).0 e).1

    -- 512 + 64 exactly where the grey register that the pixel uses holds 63
    pub glass-64-when : (glass_call row column ws m ≡ 512 + 64) ↔ ((glass_refusal row column ws m ≡ 0) × LitBy (chip_of ws) m row column 63)
    glass-64-when = (
      λ e. let level = (glass-level 64).0 e in
          let lit = (level-64-when (chip_of ws) m row column).0 level.1 in
          (sym (glass-of-chip level.0) ∙ (glass-exactly (chip_of ws) (length m) row column 0).1 lit.0, lit.1),
      λ w. let stands = stands-unless-refused w.0 in
          let passed = (glass-exactly (chip_of ws) (length m) row column 0).0 (glass-of-chip stands ∙ w.0) in
          (glass-level 64).1 (stands, (level-64-when (chip_of ws) m row column).1 (passed, w.1)),
    )

-- ---- pulses

module _ (row column : ℕ) (ws m : List ℕ) where
  -- refused as the glass is
  pub pulses-refused : (k : ℕ) → glass_refusal row column ws m ≡ suc k → pulses_call row column ws m ≡ suc k
  unfolding pulses_call
  pulses-refused = refused-by-its-number row column ws m (λ s. pulses_number (pulses_for s)) (λ j. refl)

  -- else the number of the pixel's pulses
  pub pulses-given : glass_refusal row column ws m ≡ 0 → pulses_call row column ws m ≡ pulses_number (pulses_of (chip_of ws) m row column)
  unfolding pulses_call
  pulses-given r = rw (stands-unless-refused row column ws m r)

  -- which is 256 exactly where the glass is dark, 257 exactly where it is undriven,
  pub pulses-dark : (pulses_call row column ws m ≡ 256) ↔ ((stands_for ws ≡ true) × (glass_of (chip_of ws) m row column ≡ Ok shown.Dark))
  unfolding pulses_call
  pulses-dark = (
    λ e. let given = given_by ws m _ 256 (omega arith) e in (given.0, (number-dark (chip_of ws) m row column).0 given.1),
    λ w. rw (w.0, w.1),
  )

  pub pulses-undriven : (pulses_call row column ws m ≡ 257) ↔ ((stands_for ws ≡ true) × (glass_of (chip_of ws) m row column ≡ Ok shown.Undriven))
  unfolding pulses_call
  pulses-undriven = (
    λ e. let given = given_by ws m _ 257 (omega arith) e in (given.0, (number-undriven (chip_of ws) m row column).0 given.1),
    λ w. rw (w.0, w.1),
  )

  -- has a 1 above its lower half exactly where it is lit, and then the pulse of frame k is byte k of it
  pub pulses-lit : (pulses_call row column ws m / 2 ^ 32 ≡ 1) ↔ ((stands_for ws ≡ true) × IsLit (glass_of (chip_of ws) m row column))
  unfolding pulses_call
  pulses-lit = (
    λ e. let given = given-where ws m _ (λ n. n / 2 ^ 32 ≡ 1) (λ z. omega (arith, z)) (λ z. omega (arith, z)) e in (given.0, (number-lit (chip_of ws) m row column).0 given.1),
    λ w. rw w.0 ((number-lit (chip_of ws) m row column).1 w.1),
  )

  pub pulse-in-number :
      (g k : ℕ) → stands_for ws ≡ true → glass_of (chip_of ws) m row column ≡ Ok (shown.Level g) → k < 4
      → pulses_call row column ws m / 2 ^ (8 * k) % 2 ^ 8 ≡ pulse g k
  unfolding pulses_call
  pulse-in-number g k h e l = rw h (number-pulse (chip_of ws) m row column g k e l)

module _ (row : ℕ) (ws m out : List ℕ) where
  row-of-chip : stands_for ws ≡ true → pulses.row_refusal (chip_of ws) (length m) row (length out) ≡ row_refusal row ws m out
  unfolding pulses.row_refusal
  row-of-chip h = ap (λ (k : ℕ). k then buffer_refusal (length out)) (glass-of-chip row 0 ws m h)

  -- words that stand for no record are refused before the row buffer is looked at
  row-of-none : stands_for ws ≡ false → no_record_for (length m) places ≡ row_refusal row ws m out
  row-of-none h = rw h (go (eqb (length m) places))
    where
      go : (l : Bool) → refuse (not l || false) 1 then 2 ≡ (refuse (not l) 1 then 2) then buffer_refusal (length out)
      go true = refl
      go false = refl

  -- a refused call changes nothing
  pub pulse-row-refused : (k : ℕ) → row_refusal row ws m out ≡ suc k → pulse_row_call row ws m out ≡ pulse_row (suc k) out
  unfolding pulse_row_call row_of
  pulse-row-refused k r = go (stands_for ws) refl
    where
      go : (t : Bool) → stands_for ws ≡ t → pulse_row_call row ws m out ≡ pulse_row (suc k) out
      go true h = rw (h, row-of-chip h ∙ r)
      go false h = rw (h, row-of-none h ∙ r)

  -- else the buffer is the row's bytes
  pub pulse-row-written : row_refusal row ws m out ≡ 0 → pulse_row_call row ws m out ≡ pulse_row 0 (row_bytes (chip_of ws) m row)
  unfolding pulse_row_call row_of
  pulse-row-written r =
      let h = stands-unless-refused row 0 ws m (then-zero _ _ r).0 in
      rw (h, row-of-chip h ∙ r)
