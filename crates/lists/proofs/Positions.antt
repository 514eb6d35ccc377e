-- The line at a place of a text, and the reading of a whole text restated place by place.
use Rattle.std.specs.Prelude.{Result, Ok, Err}
use mathlib.Core.Path.{◌≡◌, refl, sym, ap, ◌∙◌}
use mathlib.Core.Bool.{Bool, true, false, cond}
use mathlib.Core.List.{List, [], ◌∷◌}
use Prim.Native.Nat.{ℕ, zero, suc, ◌+◌, ◌-◌, ◌≤◌, ◌<◌}
use lib.Dec.{eqb}
use native.Mathlib.Decide.{dec_le, dec_lt}
use native.Mathlib.Omega.{arith}
use borrow.Author.Tests.{eq-eqb, ne_eqb, eqb-true, lt-ltb, le-ltb, lt-leb}
use lib.ListN.{length, get_or, take, drop, length-take, length-drop, drop_of_length-le}
use Rattle.text.specs.Text.{before, split, find_of}
use lib.Seq.{get_or-drop}
use Rattle.text.proofs.Finding.{find-from, find_none}
use Rattle.text.proofs.Splitting.{end-bounds, pieces-last, pieces_more, split-count, split-some}
use Rattle.lists.specs.declared.Line.{Line}
use Rattle.lists.specs.Line.{line_of}
use Rattle.lists.specs.Lists.{newline, newlines, faulty, lines, also_line, with_line, last_piece, pieces_from, reading_from, reading_of}
use Rattle.lists.specs.Lists.{LineThere, line_at, next_line, newline_before}
use Rattle.lists.specs.Syntax.{Valid}
use Rattle.lists.proofs.Laws.{valid}

-- the newline at `end`, or none
module _ (text : List ℕ) (at end : ℕ) (e : end ≡ find_of text at newline) where
  pub starts-before : end < length text → at ≤ end
  starts-before h = go (dec_le at (length text))
    where
      go : Dec (at ≤ length text) → at ≤ end
      go (yes l) = (end-bounds text at newline end l e).0
      go (no m) = absurd (omega (arith, e ∙ find_none text at newline (omega arith)))

  pub line-there :
      end < length text → (x : Result Line ℕ) → x ≡ line_of (take (end - at) (drop at text)) → record { parsed = x; next = end + 1 } ≡ line_at text at
  unfolding line_at next_line
  line-there h x ex = rw (← e, lt-ltb end (length text) h, ex)

  pub line-missing : length text ≤ end → record { parsed = Err 6; next = length text } ≡ line_at text at
  unfolding line_at next_line
  line-missing h = rw (← e, le-ltb end (length text) h)

  pub behind-newline : end < length text → end + 1 ≡ next_line text at
  unfolding next_line
  behind-newline h = rw (← e, lt-ltb end (length text) h)

  pub at-end : length text ≤ end → length text ≡ next_line text at
  unfolding next_line
  at-end h = rw (← e, le-ltb end (length text) h)

-- ---- the byte before a place

module _ (text : List ℕ) (at : ℕ) where
  module _ (h : at ≡ 0 → ⊥) where
    module _ (l : at - 1 < length text) where
      pub one-before : get_or text (at - 1) 0 ≡ newline → 1 ≡ newline_before text at
      unfolding newline_before
      one-before e = rw (ne_eqb at 0 h, lt-leb (length text) (at - 1) l, eq-eqb (get_or text (at - 1) 0) newline e)

      pub none_before : (get_or text (at - 1) 0 ≡ newline → ⊥) → 0 ≡ newline_before text at
      unfolding newline_before
      none_before n = rw (ne_eqb at 0 h, lt-leb (length text) (at - 1) l, ne_eqb (get_or text (at - 1) 0) newline n)

-- ---- where the next line starts

pub next-bound : (text : List ℕ) (at : ℕ) → (line_at text at).next ≤ length text
next-bound text at = go (dec_lt (find_of text at newline) (length text))
  where
    go : Dec (find_of text at newline < length text) → (line_at text at).next ≤ length text
    go (yes h) = rw (← line-there text at (find_of text at newline) refl h _ refl) (omega arith)
    go (no m) = rw (← line-missing text at (find_of text at newline) refl (omega arith)) (omega arith)

pub next-after : (text : List ℕ) (at : ℕ) → at < length text → at < (line_at text at).next
next-after text at l = go (dec_lt (find_of text at newline) (length text))
  where
    go : Dec (find_of text at newline < length text) → at < (line_at text at).next
    go (yes h) =
        rw (← line-there text at (find_of text at newline) refl h _ refl)
        (omega (arith, starts-before text at (find_of text at newline) refl h))
    go (no m) = rw (← line-missing text at (find_of text at newline) refl (omega arith)) l

-- ---- the newlines from a place on, past one line

before-found : (b : ℕ) (s : List ℕ) → before b s < length s → get_or s (before b s) 0 ≡ b
before-found b [] h = absurd (omega arith)
before-found b (x ∷ xs) h = go (eqb x b) refl h (before-found b xs)
  where
    go :
        (t : Bool) → eqb x b ≡ t → cond t 0 (suc (before b xs)) < suc (length xs) → (before b xs < length xs → get_or xs (before b xs) 0 ≡ b)
        → get_or (x ∷ xs) (cond t 0 (suc (before b xs))) 0 ≡ b
    go true e l ih = eqb-true x b e
    go false e l ih = ih (omega arith)

not-before : (b : ℕ) (s : List ℕ) (i : ℕ) → i < before b s → get_or s i 0 ≡ b → ⊥
not-before b [] i h = absurd (omega arith)
not-before b (x ∷ xs) i h = go (eqb x b) refl i h (not-before b xs)
  where
    go :
        (t : Bool) → eqb x b ≡ t → (i : ℕ) → i < cond t 0 (suc (before b xs)) → ((j : ℕ) → j < before b xs → get_or xs j 0 ≡ b → ⊥)
        → get_or (x ∷ xs) i 0 ≡ b → ⊥
    go true e i l ih q = omega arith
    go false e zero l ih q =
        let t : eqb x b ≡ true = eq-eqb x b q in
        let z : ◌≡◌ {A = ℕ} 0 1 = cc in
        omega arith
    go false e (suc i) l ih q = ih i (omega arith) q

sum_back : (at n : ℕ) → at < n → at + (n - 1 - at) ≡ n - 1
sum_back at n h = omega arith

add-sub : (n : ℕ) → n + 1 - 1 ≡ n
add-sub n = omega arith

module _ (text : List ℕ) (at : ℕ) (l : at < length text) where
  pub next_place : (at < next_line text at) × (next_line text at ≤ length text)
  next_place = go (dec_lt (find_of text at newline) (length text))
    where
      go : Dec (find_of text at newline < length text) → (at < next_line text at) × (next_line text at ≤ length text)
      go (yes h) = rw (← behind-newline text at _ refl h) (omega (arith, starts-before text at (find_of text at newline) refl h))
      go (no m) = rw (← at-end text at _ refl (omega arith)) (omega arith)

  abbrev end : ℕ
  end = find_of text at newline

  pieces-ahead : end ≡ at + before newline (drop at text)
  pieces-ahead = find-from text at newline (omega arith)

  newline-there : end < length text → get_or text end 0 ≡ newline
  newline-there h =
      rw pieces-ahead
      (sym (get_or-drop at text (before newline (drop at text)) 0)
      ∙ before-found newline (drop at text) (simp length-drop (omega (arith, pieces-ahead))))

  none_ahead : length text ≤ end → get_or text (length text - 1) 0 ≡ newline → ⊥
  none_ahead h e =
      not-before newline (drop at text) (length text - 1 - at) (omega (arith, pieces-ahead))
      (get_or-drop at text (length text - 1 - at) 0 ∙ rw (sum_back at (length text) (omega arith)) e)

  pub newlines-past : newline_before text (next_line text at) + newlines (drop (next_line text at) text) ≡ newlines (drop at text)
  newlines-past = go (dec_lt end (length text))
    where
      go : Dec (end < length text) → newline_before text (next_line text at) + newlines (drop (next_line text at) text) ≡ newlines (drop at text)
      go (yes h) =
          rw (
            ← behind-newline text at end refl h,
            ← one-before text (end + 1) (λ e. omega arith) (omega arith) (rw (add-sub end) (newline-there h)),
          )
          (omega (
            arith,
            split-count newline (drop at text),
            split-count newline (drop (end + 1) text),
            ap length (pieces_more text at newline end (omega arith) refl h),
          ))
      go (no m) =
          rw (
            ← at-end text at end refl (omega arith),
            ← none_before text (length text) (λ e. omega arith) (omega arith) (none_ahead (omega arith)),
            drop_of_length-le text {i = length text} (omega arith),
          )
          (omega (
            arith,
            split-count newline (drop at text),
            ap length (pieces-last text at newline end (omega arith) refl (omega arith)),
          ))

-- ---- the reading from a place on, the line there being line n

pub reading-end : (text : List ℕ) (at n : ℕ) → length text ≤ at → reading_from n (drop at text) ≡ lines []
unfolding reading_from
reading-end text at n h = rw (drop_of_length-le text h)

-- a line and at least one piece behind it
first_of : (n : ℕ) (p : List ℕ) (ps : List (List ℕ)) → 0 < length ps → pieces_from n (p ∷ ps) ≡ with_line (line_of p) n (pieces_from (n + 1) ps)
first_of n p [] h = absurd (omega arith)
first_of n p (q ∷ ps) h = refl

-- bytes with no newline behind them
unended : (n : ℕ) (s : List ℕ) → 0 < length s → last_piece n s ≡ faulty 6 n
unended n [] h = absurd (omega arith)
unended n (x ∷ xs) h = refl

pub reading_step :
    (text : List ℕ) (at n : ℕ) → at < length text
    → reading_from n (drop at text) ≡ with_line (line_at text at).parsed n (reading_from (n + 1) (drop (line_at text at).next text))
unfolding reading_from
reading_step text at n l = go (dec_lt end (length text))
  where
    end : ℕ
    end = find_of text at newline

    go :
        Dec (end < length text)
        → pieces_from n (split newline (drop at text))
        ≡ with_line (line_at text at).parsed n (pieces_from (n + 1) (split newline (drop (line_at text at).next text)))
    go (yes h) =
        rw (← line-there text at end refl h _ refl, pieces_more text at newline end (omega arith) refl h)
        (first_of n (take (end - at) (drop at text)) (split newline (drop (end + 1) text)) (split-some newline (drop (end + 1) text)))
    go (no m) =
        rw (← line-missing text at end refl (omega arith), pieces-last text at newline end (omega arith) refl (omega arith))
        (unended n (take (end - at) (drop at text))
        (simp (length-take, length-drop) (omega (arith, end-bounds text at newline end (omega arith) refl))))

-- the same for x, what the line at that place was found to be
module _ (text : List ℕ) (at n : ℕ) (l : at < length text) (x : LineThere) (e : x ≡ line_at text at) where
  pub reading-bad : (k : ℕ) → x.parsed ≡ Err k → reading_from n (drop at text) ≡ faulty k n
  reading-bad k q = reading_step text at n l ∙ rw (← e, q)

  pub reading-good : (y : Line) → x.parsed ≡ Ok y → reading_from n (drop at text) ≡ also_line y (reading_from (n + 1) (drop x.next text))
  reading-good y q = reading_step text at n l ∙ rw (← e, q)

  pub reading-next : (at < x.next) × (x.next ≤ length text)
  reading-next = rw e (next-after text at l, next-bound text at)

-- an accepted line is within its limits, and its newline is one of those left
good-or-bad : (y : Line) (k : ℕ) → Err k ≡ Ok y → ⊥
good-or-bad y k q = let z : ◌≡◌ {A = ℕ} 0 1 = cc in omega arith

module _ (text : List ℕ) (at : ℕ) (l : at < length text) (x : LineThere) (e : x ≡ line_at text at) (y : Line) (q : x.parsed ≡ Ok y) where
  -- the newline that ends it
  line-ended : find_of text at newline < length text
  line-ended = go (dec_lt (find_of text at newline) (length text))
    where
      go : Dec (find_of text at newline < length text) → find_of text at newline < length text
      go (yes h) = h
      go (no m) =
          absurd (good-or-bad y 6 (ap (λ (z : LineThere). z.parsed) (line-missing text at (find_of text at newline) refl (omega arith) ∙ sym e) ∙ q))

  line-is : x ≡ record { parsed = line_of (take (find_of text at newline - at) (drop at text)); next = find_of text at newline + 1 }
  line-is = e ∙ sym (line-there text at (find_of text at newline) refl line-ended _ refl)

  pub line-valid : Valid y
  line-valid = valid (take (find_of text at newline - at) (drop at text)) y (sym (ap (λ (z : LineThere). z.parsed) line-is) ∙ q)

  pub newlines-left : newlines (drop at text) ≡ 1 + newlines (drop x.next text)
  newlines-left =
      rw line-is
      (omega (
        arith,
        split-count newline (drop at text),
        split-count newline (drop (find_of text at newline + 1) text),
        ap length (pieces_more text at newline (find_of text at newline) (omega arith) refl line-ended),
      ))

pub reading-whole : (text : List ℕ) → reading_of text ≡ reading_from 1 (drop 0 text)
unfolding reading_of
reading-whole text = refl
