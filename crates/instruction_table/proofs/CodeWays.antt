-- Ways through the code of this crate, over plain variables.
use mathlib.Core.Path.{◌≡◌, sym, ap, ◌∙◌}
use mathlib.Core.Bool.{Bool, cond}
use mathlib.Core.List.{List}
use Prim.Native.Nat.{ℕ, suc, ◌+◌, ◌-◌, ◌*◌, ◌%◌, ◌^◌, ◌≤◌, ◌<◌}
use native.Mathlib.Nat.{add-zero}
use native.Mathlib.Numerals.{add-one}
use native.Mathlib.Omega.{arith}
use borrow.Author.Tests.{eq-eqb, ne_eqb}
use lib.ListN.{get_or}
use lib.Pow.{shl_exact}
use Rattle.registers.specs.Data.{codes, part_rows, part_targets, part_lows, place_of, share_of, shares_of, byte_of}
use Rattle.instruction_table.proofs.RowByte.{low-bound, byte_fits}

-- what a part adds to a row's byte: o is the part's row
module _ (v : List ℕ) (i k o : ℕ) (owner : o ≡ get_or part_rows k 0) where
  pub share-of-other : (o ≡ i → ⊥) → 0 ≡ share_of v i k
  share-of-other d = rw (← owner, ne_eqb o i d)

  -- g is the part's target, q its register, h what that holds, l the part's lowest bit
  pub share-of-own :
      (g q h l : ℕ) → o ≡ i → g ≡ get_or part_targets k 0 → q ≡ place_of g v → h ≡ get_or v q 0 → h < 256 → l ≡ get_or part_lows k 0
      → (h * 2 ^ l) % 2 ^ 16 ≡ share_of v i k
  share-of-own g q h l e target register holds byte low =
      shl_exact 8 l 16 byte (omega (arith, low-bound k))
      ∙ ap (λ (n : ℕ). h * 2 ^ n) low
      ∙ ap (λ (n : ℕ). n * 2 ^ get_or part_lows k 0) (holds ∙ ap (λ (n : ℕ). get_or v n 0) (register ∙ ap (λ (n : ℕ). place_of n v) target))
      ∙ sym (ap (λ (b : Bool). cond b (get_or v (place_of (get_or part_targets k 0) v) 0 * 2 ^ get_or part_lows k 0) 0) (eq-eqb (get_or part_rows k 0) i (sym owner ∙ e)))

-- the shares are summed from part k on; n is the sum so far, x the share of part k
module _ (v : List ℕ) (i : ℕ) where
  pub shares-start : (n : ℕ) → n ≡ get_or codes i 0 → n + shares_of v i 0 29 ≡ byte_of v i
  unfolding byte_of
  shares-start n e = ap (λ (m : ℕ). m + shares_of v i 0 29) e

  shares-step : (k : ℕ) → k < 29 → shares_of v i k (29 - k) ≡ share_of v i k + shares_of v i (k + 1) (29 - (k + 1))
  shares-step k l =
      let e : 29 - k ≡ suc (29 - (k + 1)) = omega arith in
      rw (e, add-one k)

  pub shares-next :
      (k n x : ℕ) → k < 29 → n + shares_of v i k (29 - k) ≡ byte_of v i → x ≡ share_of v i k
      → n + x + shares_of v i (k + 1) (29 - (k + 1)) ≡ byte_of v i
  shares-next k n x l so e = omega (arith, shares-step k l)

  pub shares-room :
      (k n x : ℕ) → ((j : ℕ) → get_or v j 0 ≤ 255) → k < 29 → n + shares_of v i k (29 - k) ≡ byte_of v i → x ≡ share_of v i k → n + x ≤ 65535
  shares-room k n x bytes l so e = omega (arith, shares-step k l, byte_fits i v bytes)

  pub shares-end : (k n : ℕ) → k ≤ 29 → 29 ≤ k → n + shares_of v i k (29 - k) ≡ byte_of v i → n ≡ byte_of v i
  shares-end k n l h so = let e : 29 - k ≡ 0 = omega arith in rw add-zero at (rw e at so)
