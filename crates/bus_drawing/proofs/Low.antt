-- The events of a drawing list are bytes, START and STOP: no sensor reading is among them, and no reset pulse.
use mathlib.Core.Bool.{Bool, true, false, cond}
use mathlib.Core.List.{List, [], ◌∷◌, ◌++◌}
use Prim.Native.Nat.{ℕ, zero, suc, ◌+◌, ◌-◌, ◌≤◌, ◌<◌}
use native.Mathlib.Omega.{arith}
use lib.Dec.{eqb}
use lib.ListN.{replicate}
use Rattle.registers.specs.declared.Registers.{Registers}
use Rattle.registers.specs.Reversed.{ordered}
use Rattle.chip.specs.Plays.{singles, Bytes}
use Rattle.lists.specs.declared.Line.{Line}
use Rattle.lists.specs.declared.Line.TheVariants.{Fill, Set}
use Rattle.lists.specs.Syntax.{ValidFill}
use Rattle.drawing.specs.Plain.{set_to, registers_after}
use Rattle.drawing.specs.Stream.{run, across, down, first_x, fill, set_commands, line_events, stream}
use Rattle.drawing.proofs.Fits.{LineFits, AllFit}
use Rattle.drawing.proofs.FillPlays.{first-x-limit}
use Rattle.drawing.proofs.RunPlays.{ordered-byte}
use Rattle.compiler.specs.Writes.{Tracked}
use Rattle.compiler.proofs.Tracked.{after-tracked, tracked-bytes}
use Rattle.bus.proofs.Plays.{AllLow}

both-low : (xs ys : List ℕ) → AllLow xs → AllLow ys → AllLow (xs ++ ys)
both-low [] ys a b = b
both-low (x ∷ xs) ys a b = (a.0, both-low xs ys a.1 b)

same_low : (n e : ℕ) → e < 258 → AllLow (replicate n e)
same_low zero e h = tt
same_low (suc n) e h = (h, same_low n e h)

singles-low : (bs es : List ℕ) → Bytes bs → AllLow es → AllLow (singles bs es)
singles-low [] es h low = low
singles-low (b ∷ bs) es h low = (omega arith, (omega (arith, h.0), singles-low bs es h.1 low))

stop-low : AllLow (257 ∷ [])
stop-low = (omega arith, tt)

-- ---- fills

module _ (pins : ℕ) (q : Registers) (b : ℕ) (pins-low : pins ≤ 3) (byte : b < 256) where
  run-low : (x y n : ℕ) → x ≤ 100 → y ≤ 100 → AllLow (run pins q x y n b)
  run-low x y n hx hy =
      let e = ordered q.data_order b in
      let low : e < 258 = omega (arith, ordered-byte (eqb q.data_order 1) b byte) in (
        omega arith,
        (
          omega arith,
          singles-low (1 ∷ (128 + x) ∷ (64 + y) ∷ []) (64 ∷ replicate n e ++ 257 ∷ []) (omega arith, (omega arith, (omega arith, tt)))
              (omega arith, both-low (replicate n e) (257 ∷ []) (same_low n e low) stop-low),
        ),
      )

  across-low : (x n y k : ℕ) → x ≤ 100 → y + k ≤ 101 → AllLow (across pins q x n b y k)
  across-low x n y zero hx hy = tt
  across-low x n y (suc k) hx hy =
      both-low (run pins q x y n b) (across pins q x n b (y + 1) k) (run-low x y n hx (omega arith)) (across-low x n (y + 1) k hx (omega arith))

  down-low : (y n x k : ℕ) → y ≤ 100 → x + k ≤ 101 → AllLow (down pins q y n b x k)
  down-low y n x zero hy hx = tt
  down-low y n x (suc k) hy hx =
      both-low (run pins q x y n b) (down pins q y n b (x + 1) k) (run-low x y n (omega arith) hy) (down-low y n (x + 1) k hy (omega arith))

fill-low : (pins : ℕ) (q : Registers) (c0 c1 b0 b1 n : ℕ) → pins ≤ 3 → ValidFill c0 c1 b0 b1 n → AllLow (fill pins q c0 c1 b0 b1 n)
fill-low pins q c0 c1 b0 b1 n pins-low fits = go (eqb q.v 1)
  where
    byte : n < 256
    byte = omega (arith, fits.byte)

    limit : (first_x q.mx c0 c1 + (c1 - c0 + 1) ≤ 101) × (first_x q.mx c0 c1 ≤ 100)
    limit = first-x-limit (eqb q.mx 1) c0 c1 fits.columns fits.last_column

    x : ℕ
    x = first_x q.mx c0 c1

    go : (t : Bool) → AllLow (cond t (down pins q b0 (b1 - b0 + 1) n x (c1 - c0 + 1)) (across pins q x (c1 - c0 + 1) n b0 (b1 - b0 + 1)))
    go true = down-low pins q n pins-low byte b0 (b1 - b0 + 1) x (c1 - c0 + 1) (omega (arith, fits.banks, fits.last_bank)) limit.0
    go false = across-low pins q n pins-low byte x (c1 - c0 + 1) b0 (b1 - b0 + 1) limit.1 (omega (arith, fits.banks, fits.last_bank))

-- ---- the list

line_low : (pins : ℕ) (l : Line) (q : Registers) → pins ≤ 3 → LineFits l → Tracked q → AllLow (line_events pins l q)
unfolding line_events
line_low pins (Fill c0 c1 b0 b1 n) q pins-low fits tracked = fill-low pins q c0 c1 b0 b1 n pins-low fits
line_low pins (Set f n) q pins-low fits tracked =
    (omega arith, (omega arith, singles-low (set_commands f (set_to f n q)) (257 ∷ []) (tracked-bytes f n q fits tracked) stop-low))

pub stream-low : (pins : ℕ) (ls : List Line) (q : Registers) → pins ≤ 3 → AllFit ls → Tracked q → AllLow (stream pins ls q)
unfolding stream
stream-low pins [] q pins-low fit tracked = tt
stream-low pins (l ∷ ls) q pins-low fit tracked =
    both-low (line_events pins l q) (stream pins ls (registers_after l q)) (line_low pins l q pins-low fit.0 tracked)
    (stream-low pins ls (registers_after l q) pins-low fit.1 (after-tracked l q fit.0 tracked))
