-- What was written one after the other was written together; a fill's runs are those of the stream, and how many events they have.
use mathlib.Core.List.{List, [], ◌∷◌, ◌++◌}
use mathlib.Core.Path.{◌≡◌, refl, sym, ap, ◌∙◌}
use Prim.Native.Nat.{ℕ, zero, suc, ◌+◌, ◌*◌}
use native.Mathlib.Nat.{add-zero, suc-mul, zero-mul}
use native.Mathlib.Omega.{arith}
use lib.ListN.{length, replicate, length-append, length-replicate}
use lib.Seq.{sets}
use Rattle.registers.specs.declared.Registers.{Registers}
use Rattle.registers.specs.Reversed.{ordered}
use Rattle.print.proofs.Writing.{sets-append}
use Rattle.drawing.specs.Stream.{run, across, down}
use Rattle.compiler.specs.Writes.{Wrote, run_events, runs_from}

module _ {l m r : List ℕ} {i j k : ℕ} where
  pub wrote_then : {xs ys : List ℕ} → Wrote l i xs m j → Wrote m j ys r k → Wrote l i (xs ++ ys) r k
  wrote_then {xs} {ys} a b =
      record {
        list =
            b.list
            ∙ ap (λ (n : List ℕ). sets n j ys) a.list
            ∙ ap (λ (n : ℕ). sets (sets l i xs) n ys) a.next
            ∙ sym (sets-append l i xs ys);
        next = omega (arith, a.next, b.next, length-append xs ys);
      }

pub wrote_none : (l : List ℕ) (i : ℕ) → Wrote l i [] l i
wrote_none l i = record { list = refl; next = sym (add-zero i) }

-- ---- how many

pub run_length : (pins x y n e : ℕ) → length (run_events pins x y n e) ≡ 10 + n
run_length pins x y n e = omega (arith, length-append (replicate n e) (257 ∷ []), length-replicate n e)

pub runs-length : (pins n e dx dy x y k : ℕ) → length (runs_from pins n e dx dy x y k) ≡ k * (10 + n)
runs-length pins n e dx dy x y zero = sym (zero-mul (10 + n))
runs-length pins n e dx dy x y (suc k) =
    omega (
      arith,
      suc-mul k (10 + n),
      run_length pins x y n e,
      length-append (run_events pins x y n e) (runs_from pins n e dx dy (x + dx) (y + dy) k),
      runs-length pins n e dx dy (x + dx) (y + dy) k,
    )

-- ---- runs are what the stream says

pub across-runs : (pins : ℕ) (q : Registers) (x n b y k : ℕ) → runs_from pins n (ordered q.data_order b) 0 1 x y k ≡ across pins q x n b y k
across-runs pins q x n b y zero = refl
across-runs pins q x n b y (suc k) =
    ap (λ (z : ℕ). run pins q x y n b ++ runs_from pins n (ordered q.data_order b) 0 1 z (y + 1) k) (add-zero x)
    ∙ ap (λ (es : List ℕ). run pins q x y n b ++ es) (across-runs pins q x n b (y + 1) k)

pub down-runs : (pins : ℕ) (q : Registers) (y n b x k : ℕ) → runs_from pins n (ordered q.data_order b) 1 0 x y k ≡ down pins q y n b x k
down-runs pins q y n b x zero = refl
down-runs pins q y n b x (suc k) =
    ap (λ (z : ℕ). run pins q x y n b ++ runs_from pins n (ordered q.data_order b) 1 0 (x + 1) z k) (add-zero y)
    ∙ ap (λ (es : List ℕ). run pins q x y n b ++ es) (down-runs pins q y n b (x + 1) k)

pub across-length : (pins : ℕ) (q : Registers) (x n b y k : ℕ) → length (across pins q x n b y k) ≡ k * (10 + n)
across-length pins q x n b y k = sym (ap length (across-runs pins q x n b y k)) ∙ runs-length pins n (ordered q.data_order b) 0 1 x y k

pub down-length : (pins : ℕ) (q : Registers) (y n b x k : ℕ) → length (down pins q y n b x k) ≡ k * (10 + n)
down-length pins q y n b x k = sym (ap length (down-runs pins q y n b x k)) ∙ runs-length pins n (ordered q.data_order b) 1 0 x y k
