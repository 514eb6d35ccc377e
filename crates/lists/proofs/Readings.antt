-- Whole texts: that the lines of an accepted list are valid, how many there are, and which numbers a fault has.
use Rattle.std.specs.Prelude.{Result, Ok, Err}
use mathlib.Core.Path.{◌≡◌, refl, sym, subst}
use mathlib.Core.List.{List, [], ◌∷◌}
use Prim.Native.Nat.{ℕ, suc, ◌+◌, ◌≤◌, ◌<◌}
use native.Mathlib.Omega.{arith}
use lib.ListN.{length}
use Rattle.text.specs.Text.{split}
use Rattle.text.proofs.Splitting.{split-count}
use Rattle.lists.specs.declared.Line.{Line}
use Rattle.lists.specs.Line.{line_of}
use Rattle.lists.specs.Lists.{newline, newlines, Reading, faulty, lines, with_line, last_piece, pieces_from, reading_from}
use Rattle.lists.specs.Syntax.{AllValid}
use Rattle.lists.proofs.Laws.{valid, numbers}

-- lines are no fault, and a reading is one thing only
pub not-lines : (k n : ℕ) (ls : List Line) → faulty k n ≡ lines ls → ⊥
not-lines k n ls e = let z : ◌≡◌ {A = ℕ} 0 1 = cc in omega arith

pub same_lines : (ks ls : List Line) → lines ks ≡ lines ls → ks ≡ ls
same_lines ks ls e = cc

same_number : (j m k n : ℕ) → faulty j m ≡ faulty k n → j ≡ k
same_number j m k n e = cc

same_line : (j m k n : ℕ) → faulty j m ≡ faulty k n → m ≡ n
same_line j m k n e = cc

-- what a reading of k pieces that starts with line n promises
data Read (k n : ℕ) : Reading → Type 0 where
  fault : (j m : ℕ) → (6 ≤ j) × (j ≤ 8) → n ≤ m → m < n + k → Read k n (faulty j m)
  list : (ls : List Line) → AllValid ls → length ls + 1 ≡ k → Read k n (lines ls)

read-last : (n : ℕ) (p : List ℕ) → Read 1 n (last_piece n p)
unfolding AllValid
read-last n [] = list [] tt (omega arith)
read-last n (x ∷ xs) = fault 6 n (omega arith) (omega arith) (omega arith)

-- a line in front of k pieces
read_more : (k n : ℕ) (p : List ℕ) (rest : Reading) → Read k (n + 1) rest → Read (suc k) n (with_line (line_of p) n rest)
unfolding AllValid
read_more k n p rest r = go (line_of p) refl rest r
  where
    go : (x : Result Line ℕ) → line_of p ≡ x → (rest : Reading) → Read k (n + 1) rest → Read (suc k) n (with_line x n rest)
    go (Ok l) e rest (fault j m b lo hi) = fault j m b (omega arith) (omega arith)
    go (Ok l) e rest (list ls s c) = list (l ∷ ls) (valid p l e, s) (omega arith)
    go (Err j) e rest r = fault j n (numbers p j e) (omega arith) (omega arith)

read-pieces : (n : ℕ) (ps : List (List ℕ)) → 0 < length ps → Read (length ps) n (pieces_from n ps)
read-pieces n [] h = absurd (omega arith)
read-pieces n (p ∷ []) h = read-last n p
read-pieces n (p ∷ q ∷ ps) h = read_more (suc (length ps)) n p (pieces_from (n + 1) (q ∷ ps)) (read-pieces (n + 1) (q ∷ ps) (omega arith))

read-text : (n : ℕ) (text : List ℕ) → Read (newlines text + 1) n (reading_from n text)
unfolding reading_from
read-text n text =
    subst (λ (k : ℕ). Read k n (pieces_from n (split newline text))) (split-count newline text)
    (read-pieces n (split newline text) (omega (arith, split-count newline text)))

-- ---- for a reading

pub record Accepted (text : List ℕ) (ls : List Line) : Type 0 where
  -- one line for each newline
  pub counted : length ls ≡ newlines text
  pub within : AllValid ls

pub record Refused (text : List ℕ) (n k line : ℕ) : Type 0 where
  pub least : 6 ≤ k
  pub most : k ≤ 8
  -- line n was the first
  pub not-before : n ≤ line
  pub not_behind : line ≤ n + newlines text

pub reading-accepted : (n : ℕ) (text : List ℕ) (ls : List Line) → reading_from n text ≡ lines ls → Accepted text ls
reading-accepted n text ls e = go (reading_from n text) (read-text n text) e
  where
    go : (r : Reading) → Read (newlines text + 1) n r → r ≡ lines ls → Accepted text ls
    go r (fault j m b lo hi) q = absurd (not-lines j m ls q)
    go r (list ks s c) q = subst (λ (z : List Line). Accepted text z) (same_lines ks ls q) (record { counted = omega arith; within = s })

pub reading-refused : (n : ℕ) (text : List ℕ) (k line : ℕ) → reading_from n text ≡ faulty k line → Refused text n k line
reading-refused n text k line e = go (reading_from n text) (read-text n text) e
  where
    go : (r : Reading) → Read (newlines text + 1) n r → r ≡ faulty k line → Refused text n k line
    go r (fault j m b lo hi) q =
        let ek : j ≡ k = same_number j m k line q in
        let el : m ≡ line = same_line j m k line q in
        record { least = omega arith; most = omega arith; not-before = omega arith; not_behind = omega arith }
    go r (list ks s c) q = absurd (not-lines k line ks (sym q))
