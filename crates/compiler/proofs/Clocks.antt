-- How many of a fill's events are bytes, of which each takes nine clocks.
use mathlib.Core.Bool.{Bool, true, false, cond}
use mathlib.Core.List.{List, [], ◌∷◌, ◌++◌}
use mathlib.Core.Path.{◌≡◌, refl, sym, ap, ◌∙◌}
use Prim.Native.Nat.{ℕ, zero, suc, ◌+◌, ◌*◌, ◌-◌, ◌≤◌, ◌<◌}
use native.Mathlib.Nat.{suc-mul, zero-mul, zero-add, mul-le-mul}
use native.Mathlib.Omega.{arith}
use borrow.Author.Tests.{lt-ltb}
use lib.Dec.{eqb, ltb}
use lib.ListN.{length, replicate}
use Rattle.registers.specs.declared.Registers.{Registers}
use Rattle.registers.specs.Reversed.{ordered}
use Rattle.chip.specs.Plays.{write_address}
use Rattle.drawing.specs.Stream.{across, down, first_x, fill, byte_events}
use Rattle.drawing.proofs.FillPlays.{first-x-limit}
use Rattle.drawing.proofs.RunPlays.{ordered-byte}
use Rattle.compiler.specs.Writes.{run_events, runs_from, fill_count}
use Rattle.compiler.proofs.Writes.{across-runs, down-runs, across-length, down-length}

pub bytes-append : (xs ys : List ℕ) → byte_events (xs ++ ys) ≡ byte_events xs + byte_events ys
bytes-append [] ys = sym (zero-add (byte_events ys))
bytes-append (x ∷ xs) ys = omega (arith, bytes-append xs ys)

pub bytes-limit : (es : List ℕ) → byte_events es ≤ length es
bytes-limit [] = omega arith
bytes-limit (e ∷ es) = go (ltb e 256) (bytes-limit es)
  where
    go : (t : Bool) → byte_events es ≤ length es → cond t 1 0 + byte_events es ≤ suc (length es)
    go true h = omega arith
    go false h = omega arith

pub byte-counts : (e : ℕ) → e < 256 → ◌≡◌ {A = ℕ} (cond (ltb e 256) 1 0) 1
byte-counts e h = ap {B = ℕ} (λ (t : Bool). cond t 1 0) (lt-ltb e 256 h)

pub bytes-replicate : (n e : ℕ) → e < 256 → byte_events (replicate n e) ≡ n
bytes-replicate zero e h = refl
bytes-replicate (suc n) e h = omega (arith, byte-counts e h, bytes-replicate n e h)

pub run-bytes : (pins x y n e : ℕ) → pins ≤ 3 → x < 128 → y < 192 → e < 256 → byte_events (run_events pins x y n e) ≡ 8 + n
run-bytes pins x y n e hp hx hy he =
    omega (
      arith,
      byte-counts (write_address pins) (omega arith),
      byte-counts (128 + x) (omega arith),
      byte-counts (64 + y) (omega arith),
      bytes-append (replicate n e) (257 ∷ []),
      bytes-replicate n e he,
    )

pub runs-bytes :
    (pins n e dx dy x y k : ℕ)
    → pins ≤ 3
    → e < 256
    → dx ≤ 1
    → dy ≤ 1
    → x + k ≤ 128
    → y + k ≤ 192
    → byte_events (runs_from pins n e dx dy x y k) ≡ k * (8 + n)
runs-bytes pins n e dx dy x y zero hp he hdx hdy hx hy = sym (zero-mul (8 + n))
runs-bytes pins n e dx dy x y (suc k) hp he hdx hdy hx hy =
    omega (
      arith,
      suc-mul k (8 + n),
      run-bytes pins x y n e hp (omega arith) (omega arith) he,
      bytes-append (run_events pins x y n e) (runs_from pins n e dx dy (x + dx) (y + dy) k),
      runs-bytes pins n e dx dy (x + dx) (y + dy) k hp he hdx hdy (omega arith) (omega arith),
    )

pub across-bytes :
    (pins : ℕ) (q : Registers) (x n b y k : ℕ) → pins ≤ 3 → b < 256 → x ≤ 100 → y + k ≤ 17 → byte_events (across pins q x n b y k) ≡ k * (8 + n)
across-bytes pins q x n b y k hp hb hx hy =
    sym (ap byte_events (across-runs pins q x n b y k))
    ∙ runs-bytes pins n (ordered q.data_order b) 0 1 x y k hp (ordered-byte (eqb q.data_order 1) b hb)
    (omega arith) (omega arith) (omega arith) (omega arith)

pub down-bytes :
    (pins : ℕ) (q : Registers) (y n b x k : ℕ) → pins ≤ 3 → b < 256 → y ≤ 16 → x + k ≤ 101 → byte_events (down pins q y n b x k) ≡ k * (8 + n)
down-bytes pins q y n b x k hp hb hy hx =
    sym (ap byte_events (down-runs pins q y n b x k))
    ∙ runs-bytes pins n (ordered q.data_order b) 1 0 x y k hp (ordered-byte (eqb q.data_order 1) b hb)
    (omega arith) (omega arith) (omega arith) (omega arith)

-- ---- a whole fill, whatever V and MX are

either : (f : List ℕ → ℕ) (t : Bool) (xs ys : List ℕ) (m n : ℕ) → f xs ≡ m → f ys ≡ n → f (cond t xs ys) ≡ cond t m n
either f true xs ys m n h k = h
either f false xs ys m n h k = k

module _ (pins : ℕ) (q : Registers) (c0 c1 b0 b1 n : ℕ) where
  pub fill-length : length (fill pins q c0 c1 b0 b1 n) ≡ fill_count 10 q c0 c1 b0 b1
  fill-length =
      either length (eqb q.v 1) _ _ _ _
      (down-length pins q b0 (b1 - b0 + 1) n (first_x q.mx c0 c1) (c1 - c0 + 1))
      (across-length pins q (first_x q.mx c0 c1) (c1 - c0 + 1) n b0 (b1 - b0 + 1))

  pub fill-bytes :
      pins ≤ 3 → n < 256 → c0 ≤ c1 → c1 ≤ 100 → b0 ≤ b1 → b1 ≤ 16 → byte_events (fill pins q c0 c1 b0 b1 n) ≡ fill_count 8 q c0 c1 b0 b1
  fill-bytes hp hn hc hc1 hb hb1 =
      let limit = (first-x-limit (eqb q.mx 1) c0 c1 hc hc1).0 in
      either byte_events (eqb q.v 1) _ _ _ _
      (down-bytes pins q b0 (b1 - b0 + 1) n (first_x q.mx c0 c1) (c1 - c0 + 1) hp hn (omega arith) limit)
      (across-bytes pins q (first_x q.mx c0 c1) (c1 - c0 + 1) n b0 (b1 - b0 + 1) hp hn (omega arith) (omega arith))

-- no fill takes more events than one of the whole glass by columns
pub fill-limit : (q : Registers) (c0 c1 b0 b1 : ℕ) → c1 ≤ 100 → b1 ≤ 16 → fill_count 10 q c0 c1 b0 b1 ≤ 2727
fill-limit q c0 c1 b0 b1 hc hb = go (eqb q.v 1)
  where
    columns : c1 - c0 + 1 ≤ 101
    columns = omega arith

    banks : b1 - b0 + 1 ≤ 17
    banks = omega arith

    down-limit : (c1 - c0 + 1) * (10 + (b1 - b0 + 1)) ≤ 101 * 27
    down-limit = let each : 10 + (b1 - b0 + 1) ≤ 27 = omega arith in mul-le-mul columns each

    across-limit : (b1 - b0 + 1) * (10 + (c1 - c0 + 1)) ≤ 17 * 111
    across-limit = let each : 10 + (c1 - c0 + 1) ≤ 111 = omega arith in mul-le-mul banks each

    go : (t : Bool) → cond t ((c1 - c0 + 1) * (10 + (b1 - b0 + 1))) ((b1 - b0 + 1) * (10 + (c1 - c0 + 1))) ≤ 2727
    go true = down-limit
    go false = omega (arith, across-limit)
