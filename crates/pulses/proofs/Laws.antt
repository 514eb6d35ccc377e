-- What is promised of the pulses, in one place: read this file first. The work stands in the files beside it.
use mathlib.Core.Path.{◌≡◌, refl, sym, ap, subst, ◌∙◌}
use mathlib.Core.List.{List}
use mathlib.Core.Logic.{◌↔◌}
use Prim.Native.Nat.{ℕ, zero, suc, ◌+◌, ◌*◌, ◌/◌, ◌%◌, ◌^◌, ◌≤◌, ◌<◌}
use native.Mathlib.Omega.{arith}
use native.Mathlib.Nat.{suc-mul, zero-mul}
use lib.ListN.{length, get_or}
use Rattle.registers.specs.declared.Chip.{Chip}
use Rattle.registers.specs.Refusals.{◌then◌}
use Rattle.registers.specs.State.{State}
use Rattle.std.specs.Prelude.{Result, Ok, Err}
use Rattle.glass.specs.declared.answer.Shown.{Shown}
use Rattle.glass.specs.declared.answer.Shown.TheVariants as shown
use Rattle.glass.specs.Glass.{glass_refusal, glass_of}
use Rattle.glass.specs.When.{GlassWhen, Tells}
use Rattle.glass.proofs.Laws.{glass-refused-when, level-used, level-bound, tells, refused-to-5, as-its-row, registers-alone}
use Rattle.pulses.specs.declared.answer.Pulses.TheVariants.{Dark, Undriven, Lit}
use Rattle.pulses.specs.Pulse.{pulse, pulses_for, pulses_of}
use Rattle.pulses.specs.Answer.{pulses_number}
use Rattle.pulses.specs.Row.{bytes_for, row_length, row_bytes, buffer_refusal, row_refusal, row_unless, row_of}
use Rattle.pulses.specs.When.{RowWhen, IsLit}
use Rattle.pulses.specs.Frames.{pulse_in, total, Holds, Unchanged}
use Rattle.pulses.proofs.Refusals.{row-exactly}
use Rattle.pulses.proofs.Rows.{row-long, byte_at}
use Rattle.pulses.proofs.Rounds.{pulse-bound, any-four}
use Rattle.pulses.proofs.Shown.{read_back, frame-of, byte-of}
use Rattle.pulses.proofs.Shown as byte
use Rattle.pulses.proofs.Numbers.{dark-number, undriven-number, lit-number, number-of-lit, byte-of-number}
-- the four pulses of a level add up to it
pub use Rattle.pulses.proofs.Rounds.{round}

-- ---- a pixel

module _ (c : Chip) (m : List ℕ) (row column : ℕ) where
  -- refused by 1, 2 and 5, each exactly when document 01's table says
  pub pulses-refused-when : (k : ℕ) → (pulses_of c m row column ≡ Err (suc k)) ↔ GlassWhen c (length m) row column (suc k)
  pulses-refused-when k =
      (λ e. (glass-refused-when c m row column k).0 (read_back _ _ e), λ w. ap pulses_for ((glass-refused-when c m row column k).1 w))

  -- dark and undriven by name, exactly where the glass is
  pub dark-exactly : (pulses_of c m row column ≡ Ok Dark) ↔ (glass_of c m row column ≡ Ok shown.Dark)
  dark-exactly = (read_back _ _, λ e. ap pulses_for e)

  pub undriven-exactly : (pulses_of c m row column ≡ Ok Undriven) ↔ (glass_of c m row column ≡ Ok shown.Undriven)
  undriven-exactly = (read_back _ _, λ e. ap pulses_for e)

  -- the pulses of a level exactly where the glass shows it
  pub lit-exactly :
      (g : ℕ) → (pulses_of c m row column ≡ Ok (Lit (pulse g 0) (pulse g 1) (pulse g 2) (pulse g 3))) ↔ (glass_of c m row column ≡ Ok (shown.Level g))
  lit-exactly g = (λ e. read_back _ _ e ∙ ap (λ (x : ℕ). Ok (shown.Level x)) (round g), λ e. ap pulses_for e)

  -- whatever the four pulses are, the level is their sum
  pub adds-up :
      (p₀ p₁ p₂ p₃ : ℕ) → pulses_of c m row column ≡ Ok (Lit p₀ p₁ p₂ p₃) → glass_of c m row column ≡ Ok (shown.Level (p₀ + p₁ + p₂ + p₃))
  adds-up p₀ p₁ p₂ p₃ e = read_back _ _ e

  -- no pulse is above 16
  pub at-most-16 : (f : ℕ) → pulse_in (pulses_of c m row column) f ≤ 16
  at-most-16 f = go (glass_of c m row column) refl
    where
      go : (s : Result Shown ℕ) → glass_of c m row column ≡ s → pulse_in (pulses_for s) f ≤ 16
      go (Ok (shown.Level g)) e = omega (arith, frame-of g f, pulse-bound g (f % 4) (level-bound c m row column g e))
      go (Ok shown.Dark) e = omega arith
      go (Ok shown.Undriven) e = omega arith
      go (Err k) e = omega arith

  -- a pixel that is not lit has no pulse in any frame
  pub none-unless-lit : (IsLit (glass_of c m row column) → ⊥) → (f : ℕ) → pulse_in (pulses_of c m row column) f ≡ 0
  none-unless-lit unlit f = go (glass_of c m row column) refl
    where
      go : (s : Result Shown ℕ) → glass_of c m row column ≡ s → pulse_in (pulses_for s) f ≡ 0
      go (Ok (shown.Level g)) e = absurd (unlit (record { level = g; shows = e }))
      go (Ok shown.Dark) e = refl
      go (Ok shown.Undriven) e = refl
      go (Err k) e = refl

-- ---- the number that a host in C gets for them

module _ (c : Chip) (m : List ℕ) (row column : ℕ) where
  -- 256 exactly if the pixel is dark, 257 exactly if it is undriven, 1 above the lower 32 bits exactly if it is lit
  pub number-dark : (pulses_number (pulses_of c m row column) ≡ 256) ↔ (glass_of c m row column ≡ Ok shown.Dark)
  number-dark = (dark-number _ (refused-to-5 c m row column), λ e. rw e)

  pub number-undriven : (pulses_number (pulses_of c m row column) ≡ 257) ↔ (glass_of c m row column ≡ Ok shown.Undriven)
  number-undriven = (undriven-number _ (refused-to-5 c m row column), λ e. rw e)

  pub number-lit : (pulses_number (pulses_of c m row column) / 2 ^ 32 ≡ 1) ↔ IsLit (glass_of c m row column)
  number-lit = (
    lit-number _ (refused-to-5 c m row column),
    λ lit. rw lit.shows (number-of-lit lit.level (level-bound c m row column lit.level lit.shows)),
  )

  -- and then byte k of it, from the lowest up, is the pulse of frame k
  pub number-pulse :
      (g k : ℕ) → glass_of c m row column ≡ Ok (shown.Level g) → k < 4 → pulses_number (pulses_of c m row column) / 2 ^ (8 * k) % 2 ^ 8 ≡ pulse g k
  number-pulse g k e l = rw e (byte-of-number g k (level-bound c m row column g e) l)

-- ---- whole rounds

module _ (c : Chip) (m : List ℕ) (row column g : ℕ) (lit : glass_of c m row column ≡ Ok (shown.Level g)) (during : ℕ → State) where
  pulse-then : (f : ℕ) → Holds c.registers m (during f) → pulse_in (pulses_of (during f).chip (during f).memory row column) f ≡ pulse g (f % 4)
  pulse-then f h =
      let same : glass_of (during f).chip (during f).memory row column ≡ glass_of c m row column =
      ap (λ (n : List ℕ). glass_of (during f).chip n row column) h.memory
      ∙ registers-alone (during f).chip c m row column h.is-allowed (level-used c m row column g lit).0.1 h.registers
      in
      ap (λ (s : Result Shown ℕ). pulse_in (pulses_for s) f) (same ∙ lit) ∙ frame-of g f

  -- over 4·n frames on end, from any frame on, with registers and memory unchanged, the pulses of a pixel of level g add up to n times g
  pub rounds-add-up : (n f : ℕ) → Unchanged c.registers m during f (4 * n) → total during row column f (4 * n) ≡ n * g
  rounds-add-up zero f unchanged = sym (zero-mul g)
  rounds-add-up (suc n) f unchanged =
      let more : 4 * suc n ≡ suc (suc (suc (suc (4 * n)))) = omega arith in
      let rest = rounds-add-up n (f + 1 + 1 + 1 + 1) (λ k above below. unchanged k (omega arith) (omega arith)) in
      ap (λ (k : ℕ). total during row column f k) more
      ∙ omega (
        arith,
        pulse-then f (unchanged f (omega arith) (omega arith)),
        pulse-then (f + 1) (unchanged (f + 1) (omega arith) (omega arith)),
        pulse-then (f + 1 + 1) (unchanged (f + 1 + 1) (omega arith) (omega arith)),
        pulse-then (f + 1 + 1 + 1) (unchanged (f + 1 + 1 + 1) (omega arith) (omega arith)),
        any-four (pulse g) f,
        round g,
        rest,
        suc-mul n g,
      )

-- ---- a row

-- it is refused where each of its pixels is, by the same number; and then by 11
pub as-its-pixels :
    (c : Chip) (n row column out : ℕ) → column ≤ 100
    → row_refusal c n row out ≡ glass_refusal c n row column then buffer_refusal out
unfolding row_refusal
as-its-pixels c n row column out h = ap (λ (k : ℕ). k then buffer_refusal out) (sym (as-its-row c n row column h))

module _ (c : Chip) (m : List ℕ) (row : ℕ) (out : List ℕ) where
  number_is : (row_of c m row out).number ≡ row_refusal c (length m) row (length out)
  unfolding row_of
  number_is = go (row_refusal c (length m) row (length out))
    where
      go : (x : ℕ) → (row_unless x (row_bytes c m row) out).number ≡ x
      go zero = refl
      go (suc x) = refl

  -- 0, 1, 2, 5 and 11, each exactly when document 02's order says
  pub row-number-when : (k : ℕ) → ((row_of c m row out).number ≡ k) ↔ RowWhen c (length m) row (length out) k
  row-number-when k =
      (λ e. (row-exactly c (length m) row (length out) k).0 (sym number_is ∙ e), λ w. number_is ∙ (row-exactly c (length m) row (length out) k).1 w)

  -- a refused call changes nothing
  pub refused-unchanged : (k : ℕ) → (row_of c m row out).number ≡ suc k → (row_of c m row out).out ≡ out
  unfolding row_of
  refused-unchanged k e = go (row_refusal c (length m) row (length out)) (sym number_is ∙ e)
    where
      go : (x : ℕ) → x ≡ suc k → (row_unless x (row_bytes c m row) out).out ≡ out
      go zero z = absurd (omega arith)
      go (suc x) z = refl

  module _ (accepted : (row_of c m row out).number ≡ 0) where
    -- an accepted one leaves the row's bytes, and they are the whole buffer
    pub written : (row_of c m row out).out ≡ row_bytes c m row
    unfolding row_of
    written = rw (sym number_is ∙ accepted)

    pub all-written : length (row_of c m row out).out ≡ row_length
    all-written = ap (λ (l : List ℕ). length l) written ∙ row-long c m row

    -- none of its pixels is refused
    pub none-refused : (column : ℕ) → column ≤ 100 → GlassWhen c (length m) row column 0
    none-refused column there =
        let when = (row-number-when 0).0 accepted in
        (when.0, when.1, record { row_there = when.2; column_there = there })

    is_told : (column : ℕ) → column ≤ 100 → Tells (glass_of c m row column)
    is_told column there = tells c m row column (none-refused column there)

    module _ (column k : ℕ) (there : column ≤ 100) (in_four : k < 4) where
      -- byte k of a pixel stands at 4·column + k, and is what the pixel has by itself
      pub pixel-there : get_or (row_of c m row out).out (4 * column + k) 0 ≡ get_or (bytes_for (pulses_of c m row column)) k 0
      pixel-there = ap (λ (l : List ℕ). get_or l (4 * column + k) 0) written ∙ byte_at c m row column k there in_four

      -- 254 exactly if it is dark, 255 exactly if it is undriven, at most 16 exactly if it is lit
      pub dark-254 : (get_or (row_of c m row out).out (4 * column + k) 0 ≡ 254) ↔ (glass_of c m row column ≡ Ok shown.Dark)
      dark-254 = (
        λ e. byte.says-dark k in_four _ (is_told column there) (sym pixel-there ∙ e),
        λ e. pixel-there ∙ byte.dark-byte k in_four _ e,
      )

      pub undriven-255 : (get_or (row_of c m row out).out (4 * column + k) 0 ≡ 255) ↔ (glass_of c m row column ≡ Ok shown.Undriven)
      undriven-255 = (
        λ e. byte.says-undriven k in_four _ (is_told column there) (sym pixel-there ∙ e),
        λ e. pixel-there ∙ byte.undriven-byte k in_four _ e,
      )

      pub lit-to-16 : (get_or (row_of c m row out).out (4 * column + k) 0 ≤ 16) ↔ IsLit (glass_of c m row column)
      lit-to-16 = (
        λ h. byte.says-lit k in_four _ (is_told column there) (subst (λ (x : ℕ). x ≤ 16) pixel-there h),
        λ lit. subst (λ (x : ℕ). x ≤ 16) (sym pixel-there) (byte.lit-byte k in_four _ (is_told column there) lit),
      )

      -- and then it is the pulse of frame k
      pub pulse-there : (g : ℕ) → glass_of c m row column ≡ Ok (shown.Level g) → get_or (row_of c m row out).out (4 * column + k) 0 ≡ pulse g k
      pulse-there g e = pixel-there ∙ ap (λ (s : Result Shown ℕ). get_or (bytes_for (pulses_for s)) k 0) e ∙ byte-of g k in_four
