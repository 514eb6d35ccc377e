-- Words and record are one thing in two forms: across and back is where one started, either way.
use mathlib.Core.Path.{◌≡◌, refl, sym, ap, ap₂}
use mathlib.Core.Bool.{Bool, true, false, cond, not, ◌&&◌, ◌||◌}
use mathlib.Core.List.{List, ◌∷◌, ◌++◌}
use mathlib.Core.Logic.{◌↔◌}
use Prim.Native.Nat.{ℕ, ◌≤◌}
use native.Mathlib.Omega.{arith}
use borrow.Author.Tests.{eqb-true, eq-eqb, le-leb}
use lib.Dec.{T, leb, eqb}
use lib.ListN.{get_or}
use Rattle.registers.specs.declared.Chip.{Chip}
use Rattle.registers.specs.declared.PixelCounts.{PixelCounts}
use Rattle.registers.specs.declared.Phase.{Phase}
use Rattle.registers.specs.declared.Phase.TheVariants.{Idle, AddressAwaited, Ignoring, ControlAwaited, OneByte, EndlessBytes, Reading, ReadEnded}
use Rattle.registers.specs.Record.{phase_rs, allowed, within, values, counts, count_limits, allowed_registers, allowed_counts, with_last_rs, in_phase}
use Rattle.registers.proofs.Below.{all_below, below_at, false-true}
use Rattle.registers.proofs.Within.{both_left, both_right}
use Rattle.registers.proofs.Tables.{tabulated}
use Rattle.std.specs.Prelude.{None, Some}
use Rattle.record_words.specs.Words.{word_limits, record_length, stands_for, chip_of, words_of, phase_of, phase_number}
use Rattle.record_words.specs.Words.{rs_fits, bit, is_set, read_of, read_number, stored}
use Rattle.record_words.proofs.Stands.{true_of, in_words, stands-length, stands-within, stands_at, stands-rs}

-- ---- words, record, words

bit-back : (n : ℕ) → n ≤ 1 → bit (is_set n) ≡ n
bit-back n h = eqb-true _ _ (true_of _ (below_at 2 (λ k. eqb (bit (is_set k)) k) tt n (omega arith)))

-- every phase and RS that fit each other, in one test
phase_back : ℕ → ℕ → Bool
phase_back p rs = not (rs_fits p rs) || (eqb (phase_number (phase_of p (is_set rs))) p && eqb (bit (phase_rs (phase_of p (is_set rs)))) rs)

phases-back :
    (p rs : ℕ) → p ≤ 7 → rs ≤ 1 → rs_fits p rs ≡ true
    → eqb (phase_number (phase_of p (is_set rs))) p && eqb (bit (phase_rs (phase_of p (is_set rs)))) rs ≡ true
unfolding phase_back
phases-back p rs hp hr fits =
    let in-phase = below_at 8 (λ k. all_below 2 (λ r. phase_back k r)) tt p (omega arith) in
    taken (rs_fits p rs) _ (below_at 2 (λ r. phase_back p r) in-phase rs (omega arith)) fits
  where
    taken : (a b : Bool) → T (not a || b) → a ≡ true → b ≡ true
    taken true b t e = true_of b t
    taken false b t e = let z : ◌≡◌ {A = Bool} true false = sym e in cc

abbrev phase_in : List ℕ → Phase
phase_in l = phase_of (get_or l 32 0) (is_set (get_or l 33 0))

-- the words that stand for a record are that record's words
pub words-chip-words : (ws : List ℕ) → stands_for ws ≡ true → words_of (chip_of ws) ≡ ws
unfolding words_of chip_of
words-chip-words ws h =
    let phase = phases-back (get_or ws 32 0) (get_or ws 33 0) (stands_at ws h 32) (stands_at ws h 33) (stands-rs ws h) in
    in_words
    (λ (l : List ℕ).
    bit (is_set (get_or l 31 0)) ≡ get_or l 31 0 → phase_number (phase_in l) ≡ get_or l 32 0 → bit (phase_rs (phase_in l)) ≡ get_or l 33 0
    → words_of (chip_of l) ≡ l)
    (λ f last number rs.
    ap (λ (k : List ℕ). values (chip_of (tabulated f 0 record_length)).registers ++ (f 29 ∷ f 30 ∷ k))
    (three _ _ _ _ _ _ _ last number rs))
    ws (stands-length ws h)
    (bit-back (get_or ws 31 0) (stands_at ws h 31))
    (eqb-true _ _ (both_left _ _ phase))
    (eqb-true _ _ (both_right (eqb (phase_number (phase_in ws)) (get_or ws 32 0)) _ phase))
  where
    three : (a a' b b' c c' : ℕ) (l : List ℕ) → a ≡ a' → b ≡ b' → c ≡ c' → a ∷ b ∷ c ∷ l ≡ a' ∷ b' ∷ c' ∷ l
    three a a' b b' c c' l ea eb ec = rw (ea, eb, ec)

-- ---- record, words, record

set-bit : (t : Bool) → is_set (bit t) ≡ t
set-bit true = refl
set-bit false = refl

same-phase : (p : Phase) → phase_of (phase_number p) (is_set (bit (phase_rs p))) ≡ p
same-phase Idle = refl
same-phase AddressAwaited = refl
same-phase Ignoring = refl
same-phase ControlAwaited = refl
same-phase (OneByte rs) = ap OneByte (set-bit rs)
same-phase (EndlessBytes rs) = ap EndlessBytes (set-bit rs)
same-phase Reading = refl
same-phase ReadEnded = refl

-- no two records have the same words
pub chip-words-chip : (c : Chip) → chip_of (words_of c) ≡ c
unfolding words_of chip_of
chip-words-chip c =
    ap₂
    (λ (t : Bool) (p : Phase). in_phase (with_last_rs c t) p)
    (set-bit c.last_rs)
    (same-phase c.phase)

bit-bound : (t : Bool) → leb (bit t) 1 ≡ true
bit-bound true = refl
bit-bound false = refl

phase-bound : (p : Phase) → leb (phase_number p) 7 ≡ true
phase-bound Idle = refl
phase-bound AddressAwaited = refl
phase-bound Ignoring = refl
phase-bound ControlAwaited = refl
phase-bound (OneByte rs) = refl
phase-bound (EndlessBytes rs) = refl
phase-bound Reading = refl
phase-bound ReadEnded = refl

rs-bound : (p : Phase) → rs_fits (phase_number p) (bit (phase_rs p)) ≡ true
rs-bound Idle = refl
rs-bound AddressAwaited = refl
rs-bound Ignoring = refl
rs-bound ControlAwaited = refl
rs-bound (OneByte true) = refl
rs-bound (OneByte false) = refl
rs-bound (EndlessBytes true) = refl
rs-bound (EndlessBytes false) = refl
rs-bound Reading = refl
rs-bound ReadEnded = refl

both : (a b : Bool) → a ≡ true → b ≡ true → a && b ≡ true
both a b ea eb = rw (ea, eb)

-- the words' test: t of the registers and pins, then the four words behind them, then the pixels
abbrev registers_and_pins : Chip → Bool
registers_and_pins c = allowed_registers c.registers && leb c.pins 3

abbrev tested : Bool → Bool → Bool → Bool → Bool → PixelCounts → Bool
tested t a b c d n = within ((((t && a) && b) && c) && d) (counts n) count_limits

all_tested :
    (t a b c d : Bool) (n : PixelCounts) → t && allowed_counts n ≡ true → a ≡ true → b ≡ true → c ≡ true → d ≡ true → tested t a b c d n ≡ true
all_tested true a b c d n h ea eb ec ed = rw (ea, eb, ec, ed) h
all_tested false a b c d n h ea eb ec ed = h

tested-allowed : (t a b c d : Bool) (n : PixelCounts) → tested t a b c d n ≡ true → t && allowed_counts n ≡ true
tested-allowed true true true true true n h = h
tested-allowed true true true true false n h = absurd (false-true h)
tested-allowed true true true false d n h = absurd (false-true h)
tested-allowed true true false c d n h = absurd (false-true h)
tested-allowed true false b c d n h = absurd (false-true h)
tested-allowed false a b c d n h = h

-- an allowed record whose status is a byte stands in words
pub allowed-stands : (c : Chip) → allowed c ≡ true → c.status ≤ 255 → stands_for (words_of c) ≡ true
unfolding stands_for words_of allowed
allowed-stands c h hs =
    both _ _
    (all_tested (registers_and_pins c) _ _ _ _ c.pixels h (le-leb c.status 255 hs) (bit-bound c.last_rs) (phase-bound c.phase)
    (bit-bound (phase_rs c.phase)))
    (rs-bound c.phase)

-- the other way round: the record is allowed, so that a step finds no 2 in it
pub stands-allowed : (ws : List ℕ) → stands_for ws ≡ true → allowed (chip_of ws) ≡ true
unfolding chip_of allowed
stands-allowed ws h =
    in_words (λ (l : List ℕ). within true l word_limits ≡ true → allowed (chip_of l) ≡ true)
    (λ f w.
    let c = chip_of (tabulated f 0 record_length) in
    tested-allowed (registers_and_pins c) (leb (f 30) 255) (leb (f 31) 1) (leb (f 32) 7) (leb (f 33) 1) c.pixels w)
    ws (stands-length ws h) (stands-within ws h)

-- ---- reading and writing

module _ (ws : List ℕ) where
  pub read-record-exactly : (c : Chip) → (read_of ws ≡ Some c) ↔ ((stands_for ws ≡ true) × (c ≡ chip_of ws))
  unfolding read_of
  read-record-exactly c = (there (stands_for ws) refl, λ (h, e). rw (h, e))
    where
      there : (t : Bool) → stands_for ws ≡ t → cond t (Some (chip_of ws)) None ≡ Some c → (stands_for ws ≡ true) × (c ≡ chip_of ws)
      there true h e = (h, cc)
      there false h e = let z : ◌≡◌ {A = ℕ} 0 1 = cc in absurd (omega arith)

  pub read-none-exactly : (read_of ws ≡ None) ↔ (stands_for ws ≡ false)
  unfolding read_of
  read-none-exactly = (there (stands_for ws) refl, λ h. rw h)
    where
      there : (t : Bool) → stands_for ws ≡ t → cond t (Some (chip_of ws)) None ≡ None → stands_for ws ≡ false
      there true h e = let z : ◌≡◌ {A = ℕ} 0 1 = cc in absurd (omega arith)
      there false h e = h

  -- in document 01's numbers: 2 comes exactly where the words stand for no record
  pub two-exactly : (read_number (read_of ws) ≡ 2) ↔ (stands_for ws ≡ false)
  unfolding read_of
  two-exactly = (there (stands_for ws) refl, λ h. rw h)
    where
      there : (t : Bool) → stands_for ws ≡ t → read_number (cond t (Some (chip_of ws)) None) ≡ 2 → stands_for ws ≡ false
      there true h e = absurd (omega arith)
      there false h e = h

  -- a buffer that stood for a record takes another
  pub stored-over : (c : Chip) → stands_for ws ≡ true → stored c ws ≡ words_of c
  unfolding stored
  stored-over c h = rw (eq-eqb _ _ (stands-length ws h))
