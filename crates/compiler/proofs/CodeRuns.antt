-- The ways through `emit` and `runs`, over plain variables: a turn of each loop, a run in its parts, and a fill from its runs.
use mathlib.Core.Bool.{Bool, true, false, cond}
use mathlib.Core.List.{List, [], ◌∷◌}
use mathlib.Core.Path.{◌≡◌, refl, sym, ap, ◌∙◌, subst}
use Prim.Native.Nat.{ℕ, zero, suc, ◌+◌, ◌*◌, ◌-◌, ◌≤◌, ◌<◌}
use native.Mathlib.Nat.{suc-mul, mul-le-mul}
use native.Mathlib.Omega.{arith}
use lib.Dec.{eqb}
use borrow.Rule.Slice.PartMut.{put_mid}
use lib.ListN.{length, replicate, length-replicate}
use lib.Seq.{take_all, sets-eq}
use Rattle.std.proofs.lemmas.Slice.{put_mid-paste}
use Rattle.registers.specs.declared.Registers.{Registers}
use Rattle.chip.specs.Plays.{write_address}
use Rattle.lists.specs.Syntax.{ValidFill}
use Rattle.drawing.specs.Stream.{across, down, first_x, fill}
use Rattle.drawing.proofs.FillPlays.{first-x-limit}
use Rattle.compiler.specs.declared.line.Counts.{Counts}
use Rattle.compiler.specs.declared.runs.Runs.{Runs}
use Rattle.compiler.specs.Writes.{Wrote, RunsFit, run_events, runs_from, runs_events, by_columns, by_banks, runs_of, counts, fill_count}
use Rattle.compiler.proofs.Writes.{wrote_then, wrote_none, run_length, runs-length, across-runs, down-runs}

less_one : (n : ℕ) → suc n - 1 ≡ n
less_one n = omega arith

-- a part filled with one event
pub filled :
    (xs ys : List ℕ) (a k n m e : ℕ) → a + n ≤ length xs → ys ≡ replicate m e → m ≡ n → k ≡ n → Wrote xs a (replicate n e) (put_mid a k xs ys) (a + n)
filled xs ys a k n m e room same em ek =
    record {
      list =
          put_mid-paste a k xs ys (replicate n e) n (same ∙ ap (λ (z : ℕ). replicate z e) em) (sym ek) (sym (length-replicate n e))
          ∙ rw (take_all n (replicate n e) (omega (arith, length-replicate n e)), sets-eq (replicate n e) xs a (omega (arith, length-replicate n e)), length-replicate n e);
      next = ap (λ (z : ℕ). a + z) (sym (length-replicate n e));
    }

module _ {l m r : List ℕ} {i j k : ℕ} where
  runs-turn :
      (pins n e dx dy x y q : ℕ)
      → 0 < q
      → Wrote l i (run_events pins x y n e) m j
      → Wrote m j (runs_from pins n e dx dy (x + dx) (y + dy) (q - 1)) r k
      → Wrote l i (runs_from pins n e dx dy x y q) r k
  runs-turn pins n e dx dy x y zero h a b = absurd (omega arith)
  runs-turn pins n e dx dy x y (suc q) h a b =
      wrote_then a (subst (λ (z : ℕ). Wrote m j (runs_from pins n e dx dy (x + dx) (y + dy) z) r k) (less_one q) b)

no-more-runs : (l : List ℕ) (i pins n e dx dy x y k : ℕ) → k ≡ 0 → Wrote l i (runs_from pins n e dx dy x y k) l i
no-more-runs l i pins n e dx dy x y k h = subst (λ (q : ℕ). Wrote l i (runs_from pins n e dx dy x y q) l i) (sym h) (wrote_none l i)

-- room for one run more
one_more : (k m : ℕ) → 0 < k → k * m ≡ m + (k - 1) * m
one_more zero m h = absurd (omega arith)
one_more (suc k) m h = omega (arith, suc-mul k m, ap (λ (q : ℕ). q * m) (less_one k))

-- ---- runs

pub run-wrote :
    {l m o r : List ℕ} {i j q k : ℕ} (pins x y n e a : ℕ)
    → a ≡ write_address pins
    → Wrote l i (256 ∷ a ∷ 128 ∷ 1 ∷ 128 ∷ (128 + x) ∷ 128 ∷ (64 + y) ∷ 64 ∷ []) m j
    → Wrote m j (replicate n e) o q
    → Wrote o q (257 ∷ []) r k
    → Wrote l i (run_events pins x y n e) r k
run-wrote {l = l} {m = m} {i = i} {j = j} pins x y n e a h matched drawn stopped =
    wrote_then
    (subst (λ (z : ℕ). Wrote l i (256 ∷ z ∷ 128 ∷ 1 ∷ 128 ∷ (128 + x) ∷ 128 ∷ (64 + y) ∷ 64 ∷ []) m j) h matched)
    (wrote_then drawn stopped)

-- what is known of a loop over runs: room for those that are left, and what is still to be written
pub record Running (out₀ : List ℕ) (at pins : ℕ) (r : Runs) (out : List ℕ) (here x y left : ℕ) : Type 0 where
  pub fits : RunsFit r
  pub room : here + left * (10 + r.bytes) ≤ length out
  pub same_length : length out ≡ length out₀
  pub x-limit : x + left ≤ 1000
  pub y-limit : y + left ≤ 1000
  pub rest :
      (l : List ℕ) (j : ℕ) → Wrote out here (runs_from pins r.bytes r.event r.dx r.dy x y left) l j
      → Wrote out₀ at (runs_events pins r) l j

pub running-start :
    (out : List ℕ) (at pins : ℕ) (r : Runs) (left : ℕ) → left ≡ r.count → RunsFit r → at + length (runs_events pins r) ≤ length out
    → Running out at pins r out at r.x r.y left
running-start out at pins r left all fits room =
    subst (λ (k : ℕ). Running out at pins r out at r.x r.y k) (sym all)
    (record {
      fits = fits;
      room = omega (arith, runs-length pins r.bytes r.event r.dx r.dy r.x r.y r.count);
      same_length = refl;
      x-limit = omega (arith, fits.x, fits.count);
      y-limit = omega (arith, fits.y, fits.count);
      rest = λ l j w. w;
    })

module _ {out₀ : List ℕ} {at pins : ℕ} {r : Runs} {out : List ℕ} {here x y left : ℕ} (m : Running out₀ at pins r out here x y left) where
  pub running-room : 0 < left → (here + (10 + r.bytes) ≤ length out) × (x ≤ 1000) × (y ≤ 1000)
  running-room h = (omega (arith, m.room, one_more left (10 + r.bytes) h), omega (arith, m.x-limit), omega (arith, m.y-limit))

  pub running-turn :
      0 < left → {out' : List ℕ} {here' : ℕ} → length out' ≡ length out
      → Wrote out here (run_events pins x y r.bytes r.event) out' here' → (left' : ℕ) → left' ≡ left - 1
      → Running out₀ at pins r out' here' (x + r.dx) (y + r.dy) left'
  running-turn h {out'} {here'} same w left' one =
      let next = run_length pins x y r.bytes r.event in
      subst (λ (k : ℕ). Running out₀ at pins r out' here' (x + r.dx) (y + r.dy) k) (sym one)
      (record {
        fits = m.fits;
        room = omega (arith, m.room, one_more left (10 + r.bytes) h, w.next, next, same);
        same_length = same ∙ m.same_length;
        x-limit = omega (arith, m.x-limit, m.fits.dx);
        y-limit = omega (arith, m.y-limit, m.fits.dy);
        rest = λ l j v. m.rest l j (runs-turn pins r.bytes r.event r.dx r.dy x y left h w v);
      })

  pub running-end : left ≡ 0 → Wrote out₀ at (runs_events pins r) out here
  running-end h = m.rest out here (no-more-runs out here pins r.bytes r.event r.dx r.dy x y left h)

-- ---- a whole fill

abbrev runs_counts : Runs → Counts
runs_counts r = counts (r.count * (10 + r.bytes)) (r.count * (8 + r.bytes))

module _ (q : Registers) (c0 c1 b0 b1 n : ℕ) where
  runs_fit : ValidFill c0 c1 b0 b1 n → RunsFit (runs_of q c0 c1 b0 b1 n)
  unfolding runs_of
  runs_fit s = go (eqb q.v 1)
    where
      x-limit : first_x q.mx c0 c1 ≤ 100
      x-limit = (first-x-limit (eqb q.mx 1) c0 c1 s.columns s.last_column).1

      go : (t : Bool) → RunsFit (cond t (by_columns q c0 c1 b0 b1 n) (by_banks q c0 c1 b0 b1 n))
      go true = record { count = omega arith; bytes = omega arith; x = x-limit; y = omega arith; dx = omega arith; dy = omega arith }
      go false = record { count = omega arith; bytes = omega arith; x = x-limit; y = omega arith; dx = omega arith; dy = omega arith }

  runs-events : (pins : ℕ) → runs_events pins (runs_of q c0 c1 b0 b1 n) ≡ fill pins q c0 c1 b0 b1 n
  unfolding runs_of
  runs-events pins = go (eqb q.v 1)
    where
      columns : runs_events pins (by_columns q c0 c1 b0 b1 n) ≡ down pins q b0 (b1 - b0 + 1) n (first_x q.mx c0 c1) (c1 - c0 + 1)
      columns = down-runs pins q b0 (b1 - b0 + 1) n (first_x q.mx c0 c1) (c1 - c0 + 1)

      banks : runs_events pins (by_banks q c0 c1 b0 b1 n) ≡ across pins q (first_x q.mx c0 c1) (c1 - c0 + 1) n b0 (b1 - b0 + 1)
      banks = across-runs pins q (first_x q.mx c0 c1) (c1 - c0 + 1) n b0 (b1 - b0 + 1)

      go :
          (t : Bool) → runs_events pins (cond t (by_columns q c0 c1 b0 b1 n) (by_banks q c0 c1 b0 b1 n))
          ≡ cond t (down pins q b0 (b1 - b0 + 1) n (first_x q.mx c0 c1) (c1 - c0 + 1))
          (across pins q (first_x q.mx c0 c1) (c1 - c0 + 1) n b0 (b1 - b0 + 1))
      go true = columns
      go false = banks

  -- the runs r that the code makes of it
  module _ {r : Runs} (e : r ≡ runs_of q c0 c1 b0 b1 n) where
    pub fill-runs-fit : ValidFill c0 c1 b0 b1 n → RunsFit r
    fill-runs-fit s = subst RunsFit (sym e) (runs_fit s)

    pub fill-runs : (pins : ℕ) → runs_events pins r ≡ fill pins q c0 c1 b0 b1 n
    fill-runs pins = ap (runs_events pins) e ∙ runs-events pins

    pub fill-wrote : {l m : List ℕ} {i j : ℕ} (pins : ℕ) → Wrote l i (runs_events pins r) m j → Wrote l i (fill pins q c0 c1 b0 b1 n) m j
    fill-wrote {l} {m} {i} {j} pins w = subst (λ (es : List ℕ). Wrote l i es m j) (fill-runs pins) w

    pub fill-counts : runs_counts r ≡ counts (fill_count 10 q c0 c1 b0 b1) (fill_count 8 q c0 c1 b0 b1)
    unfolding runs_of
    fill-counts = ap runs_counts e ∙ go (eqb q.v 1)
      where
        go :
            (t : Bool) → runs_counts (cond t (by_columns q c0 c1 b0 b1 n) (by_banks q c0 c1 b0 b1 n))
            ≡ counts (cond t ((c1 - c0 + 1) * (10 + (b1 - b0 + 1))) ((b1 - b0 + 1) * (10 + (c1 - c0 + 1))))
            (cond t ((c1 - c0 + 1) * (8 + (b1 - b0 + 1))) ((b1 - b0 + 1) * (8 + (c1 - c0 + 1))))
        go true = refl
        go false = refl

-- the counts fit their numbers
pub run-counts-small : {r : Runs} (each : ℕ) → each ≤ 10 → RunsFit r → r.count * (each + r.bytes) ≤ 101 * 111
run-counts-small {r} each h fits =
    let more : each + r.bytes ≤ 111 = omega (arith, fits.bytes) in
    mul-le-mul fits.count more
