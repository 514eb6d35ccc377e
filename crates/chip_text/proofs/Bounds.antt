-- How long the text is at most.
use mathlib.Core.Bool.{Bool, true, false, not, ◌&&◌}
use mathlib.Core.List.{List, [], ◌∷◌, ◌++◌}
use mathlib.Core.Path.{◌≡◌, refl}
use Prim.Native.Nat.{ℕ, zero, suc, ◌+◌, ◌^◌, ◌<◌, ◌≤◌}
use native.Mathlib.Omega.{arith}
use borrow.Author.Tests.{leb-true}
use lib.Dec.{leb}
use lib.ListN.{get_or, length, length-append}
use Rattle.registers.specs.declared.Chip.{Chip}
use Rattle.registers.specs.declared.Phase.{Phase}
use Rattle.registers.specs.declared.PixelCounts.{PixelCounts}
use Rattle.registers.specs.declared.Phase.TheVariants.{Idle, AddressAwaited, Ignoring, ControlAwaited, OneByte, EndlessBytes, Reading, ReadEnded}
use Rattle.registers.specs.declared.Registers.{Registers}
use Rattle.registers.specs.Record.{names, values, limits, allowed, allowed_registers, allowed_counts}
use Rattle.registers.specs.Refusals.{refuse, record_refusal}
use Rattle.registers.proofs.NamePieces.{name-bound}
use Rattle.registers.proofs.Within.{both_left, both_right, allowed-registers, allowed-pins, allowed-counts, register-bound, count-bound}
use Rattle.text.specs.Text.{bytes}
use Rattle.print.specs.Chosen.{named_line}
use Rattle.print.specs.Printed.{decimal_of, parts_from}
use Rattle.print.proofs.Digits.{decimal-bound}
use Rattle.print.proofs.Writing.{parts-bound}
use Rattle.capture_trace.specs.declared.tally.Tally.{Tally}
use Rattle.chip_text.specs.ChipText.{bit_of, one_awaited, endless, phase_words, phase_line, register_line_at, register_lines}
use Rattle.chip_text.specs.ChipText.{record_lines, bus_lines, pixel_lines, chip_text}

line-length : (a b : List ℕ) → length ((a ++ 9 ∷ b) ++ (10 ∷ [])) ≡ length a + length b + 2
line-length a b = simp length-append (omega arith)

-- a number of at most 20 digits
named-bound : (name : List ℕ) (n : ℕ) → n < 10 ^ 20 → length (named_line name n) ≤ length name + 22
named-bound name n h = omega (arith, line-length name (decimal_of n), decimal-bound 19 n h)

-- ---- the registers

-- no register takes more than 127
limit-bound : (k : ℕ) → get_or limits k 0 ≤ 127
limit-bound k = go limits refl k
  where
    all_small : List ℕ → Bool
    all_small [] = true
    all_small (l ∷ ls) = leb l 127 && all_small ls

    go : (ls : List ℕ) → all_small ls ≡ true → (k : ℕ) → get_or ls k 0 ≤ 127
    go [] e k = omega arith
    go (l ∷ ls) e zero = leb-true l 127 (both_left (leb l 127) (all_small ls) e)
    go (l ∷ ls) e (suc k) = go ls (both_right (leb l 127) (all_small ls) e) k

registers-bound : (r : Registers) → allowed_registers r ≡ true → length (register_lines (values r)) ≤ 232
unfolding register_lines
registers-bound r h = go (values r) (λ k. register-bound r h k)
  where
    line-bound : (vs : List ℕ) → ((k : ℕ) → get_or vs k 0 ≤ get_or limits k 0) → (k : ℕ) → k < 29 → length (register_line_at vs k) ≤ 8
    line-bound vs low k l =
        omega (
          arith,
          line-length (get_or names k []) (decimal_of (get_or vs k 0)),
          name-bound k,
          decimal-bound 2 (get_or vs k 0) (omega (arith, low k, limit-bound k)),
        )

    go : (vs : List ℕ) → ((k : ℕ) → get_or vs k 0 ≤ get_or limits k 0) → length (parts_from (register_line_at vs) 0 29) ≤ 232
    go vs low = omega (arith, parts-bound (register_line_at vs) 8 29 (line-bound vs low) 29 0 (omega arith))

-- ---- the phase

phase-bound : (p : Phase) → length (phase_words p) ≤ 24
unfolding phase_words
phase-bound Idle = omega arith
phase-bound AddressAwaited = omega arith
phase-bound Ignoring = omega arith
phase-bound ControlAwaited = omega arith
phase-bound (OneByte rs) = go rs
  where
    go : (t : Bool) → length (one_awaited t) ≤ 24
    go false = omega arith
    go true = omega arith
phase-bound (EndlessBytes rs) = go rs
  where
    go : (t : Bool) → length (endless t) ≤ 24
    go false = omega arith
    go true = omega arith
phase-bound Reading = omega arith
phase-bound ReadEnded = omega arith

-- ---- the pixels by value

-- four digits
count-line : (name : List ℕ) (n : ℕ) → n ≤ 6767 → length (named_line name n) ≤ length name + 6
count-line name n h = omega (arith, line-length name (decimal_of n), decimal-bound 3 n (omega arith))

pixel-bound : (n : PixelCounts) → allowed_counts n ≡ true → length (pixel_lines n) ≤ 56
unfolding pixel_lines
pixel-bound n h =
    let zeros = named_line (bytes "pixels 0") n.zeros in
    let ones = named_line (bytes "pixels 1") n.ones in
    let twos = named_line (bytes "pixels 2") n.twos in
    let threes = named_line (bytes "pixels 3") n.threes in
    omega (
      arith,
      length-append zeros (ones ++ (twos ++ threes)),
      length-append ones (twos ++ threes),
      length-append twos threes,
      count-line (bytes "pixels 0") n.zeros (count-bound n h 0),
      count-line (bytes "pixels 1") n.ones (count-bound n h 1),
      count-line (bytes "pixels 2") n.twos (count-bound n h 2),
      count-line (bytes "pixels 3") n.threes (count-bound n h 3),
    )

-- ---- all of it

bit-bound : (t : Bool) → bit_of t ≤ 1
bit-bound true = omega arith
bit-bound false = omega arith

pub record-allowed : (c : Chip) → record_refusal c ≡ 0 → allowed c ≡ true
record-allowed c = go (allowed c)
  where
    go : (t : Bool) → refuse (not t) 2 ≡ 0 → t ≡ true
    go true e = refl
    go false e = absurd (omega (arith, e))

-- a machine's numbers, and a record that is allowed
module _ (c : Chip) (n : ℕ) (t : Tally) (is-allowed : allowed c ≡ true) (status : c.status < 2 ^ 8) (count : n < 2 ^ 64)
    (yes : t.acknowledged < 2 ^ 64) (no : t.not_acknowledged < 2 ^ 64) where
  record-bound : length (record_lines c) ≤ 315
  unfolding record_lines
  record-bound =
      let pins = named_line (bytes "pins") c.pins in
      let state = named_line (bytes "status") c.status in
      let rs = named_line (bytes "last rs") (bit_of c.last_rs) in
      omega (
        arith,
        length-append (register_lines (values c.registers)) (pins ++ (state ++ rs)),
        length-append pins (state ++ rs),
        length-append state rs,
        registers-bound c.registers (allowed-registers c is-allowed),
        named-bound (bytes "pins") c.pins (omega (arith, allowed-pins c is-allowed)),
        named-bound (bytes "status") c.status (omega (arith, status)),
        named-bound (bytes "last rs") (bit_of c.last_rs) (omega (arith, bit-bound c.last_rs)),
      )

  bus-bound : length (bus_lines c n t) ≤ 130
  unfolding bus_lines
  bus-bound =
      let phase = phase_line c.phase in
      let number = named_line (bytes "count") n in
      let sent = named_line (bytes "acknowledged") t.acknowledged in
      let unsent = named_line (bytes "not acknowledged") t.not_acknowledged in
      omega (
        arith,
        length-append phase (number ++ (sent ++ unsent)),
        length-append number (sent ++ unsent),
        length-append sent unsent,
        line-length (bytes "phase") (phase_words c.phase),
        phase-bound c.phase,
        named-bound (bytes "count") n (omega (arith, count)),
        named-bound (bytes "acknowledged") t.acknowledged (omega (arith, yes)),
        named-bound (bytes "not acknowledged") t.not_acknowledged (omega (arith, no)),
      )

  -- 8 for each register, three letters of name and three digits; 14 for each count of pixels; the others by their names and at most twenty digits
  pub chip-text-bound : length (chip_text c n t) ≤ 501
  chip-text-bound =
      omega (
        arith,
        length-append (record_lines c) (bus_lines c n t ++ pixel_lines c.pixels),
        length-append (bus_lines c n t) (pixel_lines c.pixels),
        record-bound,
        bus-bound,
        pixel-bound c.pixels (allowed-counts c is-allowed),
      )
