-- What is promised of a drawing list's lines, in one place: read this file first, then specs/Syntax.antt. The work stands in the files beside
-- it; what holds of a whole text, place by place, is in Positions.antt.
use Rattle.std.specs.Prelude.{Ok, Err}
use mathlib.Core.Path.{◌≡◌, sym, ap, ◌∙◌}
use mathlib.Core.List.{List, [], ◌∷◌}
use mathlib.Core.Logic.{◌↔◌}
use Prim.Native.Nat.{ℕ, ◌≤◌}
use native.Mathlib.Omega.{arith}
use Rattle.lists.specs.declared.Line.{Line}
use Rattle.lists.specs.Line.{values_of, numbers_of, line_of}
use Rattle.lists.specs.Syntax.{Syntax, put, fill, set, WellFormed, Parses, InRange, RowReadable, as_line, Valid}
use Rattle.lists.specs.Syntax.{AcceptedAs, Malformed, OutOfRange, RowUnreadable}
use Rattle.lists.proofs.Answers.{Answered, good, out, no_row, answered, Parsing, not-parsed, parsed, parsing, numbers_apart, not-both, one_number}

-- a line is accepted as l exactly if it parses as something within its limits that asks for l
pub accepted : (p : List ℕ) (l : Line) → (numbers_of (line_of p) ≡ 0 ∷ values_of l) ↔ AcceptedAs p l
accepted p l = (λ h. there (parsing p) (numbers_apart (line_of p) (Ok l) h), λ s. ap numbers_of (back s (answered p s.parses)))
  where
    there : Parsing p → line_of p ≡ Ok l → AcceptedAs p l
    there (not-parsed m e) h = absurd (not-both _ _ _ h e)
    there (parsed s (good w r e)) h = record { parses = s; in-range = w; readable = r; line = cc }
    there (parsed s (out m e)) h = absurd (not-both _ _ _ h e)
    there (parsed s (no_row w m e)) h = absurd (not-both _ _ _ h e)

    back : (s : AcceptedAs p l) → Answered s.parses.syntax (line_of p) → line_of p ≡ Ok l
    back s (good w r e) = e ∙ ap Ok (sym s.line)
    back s (out m e) = absurd (m s.in-range)
    back s (no_row w m e) = absurd (m s.readable)

-- and then it is valid
pub valid : (p : List ℕ) (l : Line) → line_of p ≡ Ok l → Valid l
unfolding WellFormed InRange RowReadable as_line Valid
valid p l h = accepted-valid ((accepted p l).0 (ap numbers_of h))
  where
    asks : (s : Syntax) → WellFormed s → InRange s → RowReadable s → Valid (as_line s)
    asks (put c b n) f w r = w
    asks (fill c0 c1 b0 b1 n) f w r = w
    asks (set k n) f w r = record { field = f.0; value = w; readable = r }

    accepted-valid : AcceptedAs p l → Valid l
    accepted-valid s = rw s.line (asks s.parses.syntax s.parses.well_formed s.in-range s.readable)

-- 6 comes exactly if it does not parse
pub malformed : (p : List ℕ) → (numbers_of (line_of p) ≡ 6 ∷ []) ↔ Malformed p
malformed p = (λ h. there (parsing p) (numbers_apart (line_of p) (Err 6) h), λ m. ap numbers_of (back (parsing p) m))
  where
    there : Parsing p → line_of p ≡ Err 6 → Parses p → ⊥
    there (not-parsed m e) h = m
    there (parsed s (good w r e)) h = absurd (not-both _ _ _ e h)
    there (parsed s (out m e)) h = absurd (omega (arith, one_number (line_of p) 7 6 e h))
    there (parsed s (no_row w m e)) h = absurd (omega (arith, one_number (line_of p) 8 6 e h))

    back : Parsing p → (Parses p → ⊥) → line_of p ≡ Err 6
    back (not-parsed m e) n = e
    back (parsed s j) n = absurd (n s)

-- 7 comes exactly if it parses as something out of range
pub out_of_range : (p : List ℕ) → (numbers_of (line_of p) ≡ 7 ∷ []) ↔ OutOfRange p
out_of_range p =
    (λ h. there (parsing p) (numbers_apart (line_of p) (Err 7) h), λ s. ap numbers_of (back s.0 s.1 (answered p s.0)))
  where
    there : Parsing p → line_of p ≡ Err 7 → OutOfRange p
    there (not-parsed m e) h = absurd (omega (arith, one_number (line_of p) 6 7 e h))
    there (parsed s (good w r e)) h = absurd (not-both _ _ _ e h)
    there (parsed s (out m e)) h = (s, m)
    there (parsed s (no_row w m e)) h = absurd (omega (arith, one_number (line_of p) 8 7 e h))

    back : (s : Parses p) → (InRange s.syntax → ⊥) → Answered s.syntax (line_of p) → line_of p ≡ Err 7
    back s n (good w r e) = absurd (n w)
    back s n (out m e) = e
    back s n (no_row w m e) = absurd (n w)

-- 8 comes exactly if it parses as something in range, for a row that can't be read
pub unreadable : (p : List ℕ) → (numbers_of (line_of p) ≡ 8 ∷ []) ↔ RowUnreadable p
unreadable p =
    (λ h. there (parsing p) (numbers_apart (line_of p) (Err 8) h), λ s. ap numbers_of (back s.0 s.1 s.2 (answered p s.0)))
  where
    there : Parsing p → line_of p ≡ Err 8 → RowUnreadable p
    there (not-parsed m e) h = absurd (omega (arith, one_number (line_of p) 6 8 e h))
    there (parsed s (good w r e)) h = absurd (not-both _ _ _ e h)
    there (parsed s (out m e)) h = absurd (omega (arith, one_number (line_of p) 7 8 e h))
    there (parsed s (no_row w m e)) h = (s, w, m)

    back : (s : Parses p) → InRange s.syntax → (RowReadable s.syntax → ⊥) → Answered s.syntax (line_of p) → line_of p ≡ Err 8
    back s w n (good v r e) = absurd (n r)
    back s w n (out m e) = absurd (m w)
    back s w n (no_row v m e) = e

-- and no other number comes
pub numbers : (p : List ℕ) (k : ℕ) → line_of p ≡ Err k → (6 ≤ k) × (k ≤ 8)
numbers p k h = go (parsing p)
  where
    go : Parsing p → (6 ≤ k) × (k ≤ 8)
    go (not-parsed m e) = omega (arith, one_number (line_of p) 6 k e h)
    go (parsed s (good w r e)) = absurd (not-both _ _ _ e h)
    go (parsed s (out m e)) = omega (arith, one_number (line_of p) 7 k e h)
    go (parsed s (no_row w m e)) = omega (arith, one_number (line_of p) 8 k e h)
