-- Whole event lines: ways through the code that reads them, over plain variables, and what the lines that it reads are.
use mathlib.Core.Path.{◌≡◌, refl, sym, ap, subst, ◌∙◌}
use mathlib.Core.Bool.{Bool, true, false, cond, ◌&&◌, ◌||◌}
use mathlib.Core.List.{List, [], ◌∷◌, ◌++◌, append-nil}
use mathlib.Core.Logic.{◌⊎◌, inl, inr, ⊎_elim}
use Rattle.std.specs.Prelude.{Option, None, Some}
use Prim.Native.Nat.{ℕ, zero, suc, ◌+◌, ◌*◌, ◌-◌, ◌/◌, ◌<◌, ◌≤◌}
use native.Mathlib.Numerals.{add-one}
use native.Mathlib.Omega.{arith}
use borrow.Author.Tests.{eq-eqb, ne_eqb, eqb-true, lt-ltb, le-ltb}
use lib.Dec.{T, eqb}
use lib.ListN.{length, get_or, take, drop, set, length-set, take-append-drop}
use lib.Seq.{take-suc-set, length-take-le, take-append_seam, append_snoc, drop-set-lt, drop-drop}
use Rattle.text.specs.Decimal.{is_digit, is_leading, digit_value, one_digit, two_digits, three_digits, number_of, decimal}
use Rattle.text.proofs.Finding.{drop-next}
use Rattle.text.proofs.Numbers.{and_both, digit-bounds, bounds-digit, leading-bounds}
use Rattle.text.proofs.Printing.{printed}
use Rattle.capture_lines.specs.declared.event.EventLine.{EventLine}
use Rattle.capture_lines.specs.Line.{newline}
use Rattle.capture_lines.specs.declared.EventLines.{EventLines}
use Rattle.capture_lines.specs.Events.{
  event_lines,
  Small,
  Digits,
  line_of,
  long_line,
  line_of_digits,
  is_long,
  line_in,
  LinesRead,
  line_from,
  Lines,
  before,
  lines_from,
  counted,
  over,
}

-- ---- a line by what its bytes say

pub line_read : (t : Bool) (n e k : ℕ) → t ≡ true → e ≡ k → Some (record { event = e; bytes = n }) ≡ line_of n (cond t (Some k) None)
line_read t n e k h same = rw (h, same)

-- ---- two digits or three, and t of the third

-- as many as the quotient of the byte by 32
third-digit : (c : ℕ) → (c ≡ newline) ⊎ (is_digit c ≡ true) → ((c ≡ newline) × (c / 32 ≡ 0)) ⊎ ((48 ≤ c) × (c ≤ 57) × (c / 32 ≡ 1))
third-digit c (inl e) = inl (e, rw e)
third-digit c (inr d) = let range = digit-bounds c d in inr (range.0, range.1, omega arith)

at_most : (t x : ℕ) → t ≤ 1 → t * x ≤ x
at_most zero x h = omega arith
at_most (suc zero) x h = omega arith
at_most (suc (suc t)) x h = absurd (omega arith)

module _ (a b c : ℕ) (d : Digits a b c) where
  pub first_range : (49 ≤ a) × (a ≤ 57)
  first_range = leading-bounds a d.first

  pub second_range : (48 ≤ b) × (b ≤ 57)
  second_range = digit-bounds b d.second

  third-range : (c ≤ 57) × (c / 32 ≤ 1)
  third-range = ⊎_elim (λ h. (omega (arith, h.0), omega (arith, h.1))) (λ h. (h.1, omega (arith, h.2))) (third-digit c d.third)

  -- none is above 999
  pub event-range : (a * 10 + b - 528 ≤ 99) × (c / 32 * ((a * 10 + b - 528) * 9 + c - 48) ≤ 900)
  event-range =
      let first = first_range in
      let second = second_range in
      let third = third-range in
      (omega arith, omega (arith, at_most (c / 32) ((a * 10 + b - 528) * 9 + c - 48) third.1))

  both : is_leading a && is_digit b ≡ true
  both = rw (d.first, d.second)

  pub digits-read :
      Some (record { event = a * 10 + b - 528 + c / 32 * ((a * 10 + b - 528) * 9 + c - 48); bytes = 3 + c / 32 }) ≡ line_of_digits a b c
  unfolding line_of_digits
  digits-read = ⊎_elim two three (third-digit c d.third)
    where
      two :
          (c ≡ newline) × (c / 32 ≡ 0)
          → Some (record { event = a * 10 + b - 528 + c / 32 * ((a * 10 + b - 528) * 9 + c - 48); bytes = 3 + c / 32 }) ≡ line_of_digits a b c
      two h =
          let first = first_range in
          let second = second_range in
          rw (h.1, eq-eqb c newline h.0) (line_read (is_leading a && is_digit b) 3 _ _ both (omega arith))

      three :
          (48 ≤ c) × (c ≤ 57) × (c / 32 ≡ 1)
          → Some (record { event = a * 10 + b - 528 + c / 32 * ((a * 10 + b - 528) * 9 + c - 48); bytes = 3 + c / 32 }) ≡ line_of_digits a b c
      three h =
          let first = first_range in
          let second = second_range in
          rw (h.2, ne_eqb c newline (λ e. omega (arith, h.0)))
          (line_read (is_leading a && is_digit b && is_digit c) 4 _ _ (rw (both, bounds-digit c h.0 h.1)) (omega (arith, h.0)))

-- ---- the test of two digits or three

either : (t : Bool) (l : Option EventLine) → l ≡ cond t l l
either true l = refl
either false l = refl

module _ (a b c d : ℕ) where
  pub long-digits : is_long a b c d ≡ true → Digits a b c
  unfolding is_long
  long-digits h =
      let tests = and_both (is_leading a && is_digit b) (eqb c newline || (is_digit c && eqb d newline)) h in
      let two = and_both (is_leading a) (is_digit b) tests.0 in
      record { first = two.0; second = two.1; third = go (eqb c newline) refl tests.1 }
    where
      go : (n : Bool) → eqb c newline ≡ n → n || (is_digit c && eqb d newline) ≡ true → (c ≡ newline) ⊎ (is_digit c ≡ true)
      go true e t = inl (eqb-true c newline e)
      go false e t = inr (and_both (is_digit c) (eqb d newline) t).0

  pub long-read : (r : Option EventLine) → is_long a b c d ≡ true → r ≡ line_of_digits a b c → r ≡ long_line a b c d
  unfolding is_long long_line line_of_digits
  long-read r h e = e ∙ go (eqb c newline) (and_both (is_leading a && is_digit b) (eqb c newline || (is_digit c && eqb d newline)) h).1
    where
      go :
          (n : Bool) → n || (is_digit c && eqb d newline) ≡ true
          → cond n (line_of 3 (two_digits a b)) (line_of 4 (three_digits a b c))
          ≡ cond n (line_of 3 (two_digits a b)) (cond (eqb d newline) (line_of 4 (three_digits a b c)) None)
      go true t = refl
      go false t = rw (and_both (is_digit c) (eqb d newline) t).1

  pub not_long : is_long a b c d ≡ false → None ≡ long_line a b c d
  unfolding is_long long_line
  not_long h = go (is_leading a && is_digit b) (eqb c newline) (is_digit c) (eqb d newline) h
    where
      go :
          (s n t m : Bool) → s && (n || (t && m)) ≡ false
          → None
          ≡ cond n (line_of 3 (cond s (Some (digit_value a * 10 + digit_value b)) None))
          (cond m (line_of 4 (cond (s && t) (Some (digit_value a * 100 + digit_value b * 10 + digit_value c)) None)) None)
      go false true t m h = refl
      go false false t m h = either m None
      go true true t m h = absurd (subst T h tt)
      go true false false m h = either m None
      go true false true true h = absurd (subst T h tt)
      go true false true false h = refl

  -- by the second byte
  pub one-read : (r : Option EventLine) → b ≡ newline → r ≡ line_of 2 (one_digit a) → r ≡ line_in a b c d
  unfolding line_in
  one-read r e h = rw (eq-eqb b newline e) h

  pub more-read : (r : Option EventLine) → (b ≡ newline → ⊥) → r ≡ long_line a b c d → r ≡ line_in a b c d
  unfolding line_in
  more-read r n h = rw (ne_eqb b newline n) h

-- ---- the line at a place of a part

pub record LineAt (part : List ℕ) (at : ℕ) (r : EventLine) : Type 0 where
  pub some : 0 < r.bytes
  pub within : at + r.bytes ≤ length part
  pub small : r.event < 1000
  pub written : drop at part ≡ decimal r.event ++ newline ∷ drop (at + r.bytes) part

-- p is what stands there before a newline
number_read :
    (part p : List ℕ) (at n : ℕ) (r : EventLine) → 0 < n → at + n ≤ length part → drop at part ≡ p ++ newline ∷ drop (at + n) part
    → Some r ≡ line_of n (number_of p) → LineAt part at r
number_read part p at n r some within here e = go (number_of p) refl e
  where
    go : (v : Option ℕ) → number_of p ≡ v → Some r ≡ line_of n v → LineAt part at r
    go None q e = absurd (let z : ◌≡◌ {A = ℕ} 0 1 = cc e in omega arith)
    go (Some k) q e =
        let is = printed p k q in
        let same : r ≡ record { event = k; bytes = n } = cc e in
        subst (λ (l : EventLine). LineAt part at l) (sym same)
        (record { some = some; within = within; small = is.small; written = here ∙ rw is.in-decimal })

module _ (part : List ℕ) (at : ℕ) (inside : at + 3 < length part) where
  abbrev a : ℕ
  a = get_or part at 0

  abbrev b : ℕ
  b = get_or part (at + 1) 0

  abbrev c : ℕ
  c = get_or part (at + 2) 0

  abbrev d : ℕ
  d = get_or part (at + 3) 0

  first : drop at part ≡ a ∷ drop (at + 1) part
  first = drop-next part at (omega arith)

  next : (i : ℕ) → i ≤ 3 → drop (at + i) part ≡ get_or part (at + i) 0 ∷ drop (at + (i + 1)) part
  next i h =
      let k : at + i + 1 ≡ at + (i + 1) = omega arith in
      drop-next part (at + i) (omega arith) ∙ ap (λ (j : ℕ). get_or part (at + i) 0 ∷ drop j part) k

  pub line_at :
      (r : EventLine) → Some r ≡ line_in a b c d → LineAt part at r
  unfolding line_in long_line number_of
  line_at r e = go (eqb b newline) (eqb c newline) (eqb d newline) refl refl refl e
    where
      go :
          (s t u : Bool) → eqb b newline ≡ s → eqb c newline ≡ t → eqb d newline ≡ u
          → Some r ≡ cond s (line_of 2 (one_digit a)) (cond t (line_of 3 (two_digits a b)) (cond u (line_of 4 (three_digits a b c)) None))
          → LineAt part at r
      go true t u es et eu q =
          number_read part (a ∷ []) at 2 r (omega arith) (omega arith) (rw (first, next 1 (omega arith), eqb-true b newline es)) q
      go false true u es et eu q =
          number_read part (a ∷ b ∷ []) at 3 r (omega arith) (omega arith)
          (rw (first, next 1 (omega arith), next 2 (omega arith), eqb-true c newline et))
          q
      go false false true es et eu q =
          number_read part (a ∷ b ∷ c ∷ []) at 4 r (omega arith) (omega arith)
          (rw (first, next 1 (omega arith), next 2 (omega arith), next 3 (omega arith), eqb-true d newline eu))
          q
      go false false false es et eu q = absurd (let z : ◌≡◌ {A = ℕ} 0 1 = cc q in omega arith)

-- ---- one line more

lines_snoc : (es : List ℕ) (e : ℕ) (rest : List ℕ) → event_lines (es ++ e ∷ []) rest ≡ event_lines es (decimal e ++ newline ∷ rest)
lines_snoc [] e rest = refl
lines_snoc (x ∷ es) e rest = ap (λ (l : List ℕ). decimal x ++ newline ∷ l) (lines_snoc es e rest)

small-snoc : (es : List ℕ) (e : ℕ) → Small es → e < 1000 → Small (es ++ e ∷ [])
small-snoc [] e h small = (small, tt)
small-snoc (x ∷ es) e h small = (h.0, small-snoc es e h.1 small)

pub no_lines : (part : List ℕ) (from : ℕ) (events : List ℕ) → LinesRead part from events (record { count = 0; at = from })
no_lines part from events = record { room = omega arith; starts = omega arith; within = λ h. h; small = tt; written = refl }

pub one-more-line :
    (part : List ℕ) (from : ℕ) (events : List ℕ) (count at : ℕ) (r : EventLine) → LinesRead part from events (record { count = count; at = at })
    → count < length events → LineAt part at r
    → LinesRead part from (set events count r.event) (record { count = count + 1; at = at + r.bytes })
one-more-line part from events count at r read room line =
    record {
      room = simp length-set (omega arith);
      starts = omega (arith, read.starts);
      within = λ h. line.within;
      small = rw taken (small-snoc (take count events) r.event read.small line.small);
      written = read.written ∙ ap (event_lines (take count events)) line.written ∙ rw (taken, lines_snoc);
    }
  where
    taken : take (count + 1) (set events count r.event) ≡ take count events ++ r.event ∷ []
    taken = rw add-one (take-suc-set events count r.event room)

-- ---- which lines those are

-- what is read at a place, and that no line stands near the end
pub here-from : (part : List ℕ) (at : ℕ) (r : Option EventLine) → at + 3 < length part
    → r ≡ line_in (get_or part at 0) (get_or part (at + 1) 0) (get_or part (at + 2) 0) (get_or part (at + 3) 0) → line_from part at ≡ r
unfolding line_from
here-from part at r inside e = rw (lt-ltb (at + 3) (length part) inside) (sym e)

near-end : (part : List ℕ) (at : ℕ) → length part ≤ at + 3 → line_from part at ≡ None
unfolding line_from
near-end part at h = rw (le-ltb (at + 3) (length part) h)

from-none : (most : ℕ) (part : List ℕ) (at : ℕ) → line_from part at ≡ None → lines_from most part at ≡ record { events = []; at = at }
unfolding lines_from
from-none zero part at h = refl
from-none (suc most) part at h = rw h

pub none-near-end : (most : ℕ) (part : List ℕ) (at : ℕ) → length part - 3 ≤ at → lines_from most part at ≡ record { events = []; at = at }
none-near-end most part at h = from-none most part at (near-end part at (omega (arith, h)))

from_one : (most k : ℕ) (part : List ℕ) (at : ℕ) (r : EventLine) → most ≡ suc k → line_from part at ≡ Some r
    → lines_from most part at ≡ before (r.event ∷ []) (lines_from k part (at + r.bytes))
unfolding lines_from
from_one most k part at r m e = rw (m, e)

-- so many are read, and the lines that are left make up those from the start
pub record Reading (part : List ℕ) (from : ℕ) (memory events : List ℕ) (count at : ℕ) : Type 0 where
  pub same : length events ≡ length memory
  pub left : before (take count events) (lines_from (length memory - count) part at) ≡ lines_from (length memory) part from
  pub behind : drop count events ≡ drop count memory

pub reading-starts : (part : List ℕ) (from : ℕ) (memory : List ℕ) → Reading part from memory memory 0 from
reading-starts part from memory = let all : length memory - 0 ≡ length memory = omega arith in record { same = refl; left = rw all; behind = refl }

pub reading-goes-on :
    (part : List ℕ) (from : ℕ) (memory events : List ℕ) (count at : ℕ) (r : EventLine) → Reading part from memory events count at
    → count < length events → line_from part at ≡ Some r
    → Reading part from memory (set events count r.event) (count + 1) (at + r.bytes)
reading-goes-on part from memory events count at r reading room e =
    record {
      same = length-set events count r.event ∙ reading.same;
      left =
          rw (taken, append_snoc (take count events) r.event rest.events)
          (ap (before (take count events)) (sym (from_one (length memory - count) (length memory - (count + 1)) part at r (omega (arith, reading.same)) e))
          ∙ reading.left);
      behind =
          drop-set-lt (count + 1) events count r.event (omega arith)
          ∙ sym (drop-drop 1 count events)
          ∙ ap (drop 1) reading.behind
          ∙ drop-drop 1 count memory;
    }
  where
    rest : Lines
    rest = lines_from (length memory - (count + 1)) part (at + r.bytes)

    taken : take (count + 1) (set events count r.event) ≡ take count events ++ r.event ∷ []
    taken = rw add-one (take-suc-set events count r.event room)

-- where no line is left, or no room
module _ (part : List ℕ) (from : ℕ) (memory events : List ℕ) (count at : ℕ) (reading : Reading part from memory events count at) (room : count ≤ length events) where
  abbrev Ended : Type 0
  Ended = (record { count = count; at = at } ≡ counted (lines_from (length memory) part from)) × (events ≡ over memory (lines_from (length memory) part from))

  ends : lines_from (length memory - count) part at ≡ record { events = []; at = at } → Ended
  ends none =
      rw all (
        ap (λ (n : ℕ). record { count = n; at = at }) (sym long),
        sym (take-append-drop count events)
            ∙ ap (λ (l : List ℕ). take count events ++ l) reading.behind
            ∙ ap (λ (n : ℕ). take count events ++ drop n memory) (sym long),
      )
    where
      long : length (take count events) ≡ count
      long = length-take-le count events room

      all : lines_from (length memory) part from ≡ record { events = take count events; at = at }
      all =
          sym reading.left
          ∙ ap (before (take count events)) none
          ∙ ap (λ (l : List ℕ). record { events = l; at = at }) (append-nil (take count events))

  pub ends_at : line_from part at ≡ None → Ended
  ends_at h = ends (from-none (length memory - count) part at h)

  pub ends-near : length part ≤ at + 3 → Ended
  ends-near h = ends (from-none (length memory - count) part at (near-end part at h))

  pub ends-full : length events ≤ count → Ended
  unfolding lines_from
  ends-full h = let none : length memory - count ≡ 0 = omega (arith, reading.same) in ends (rw none)

-- what a reader has of them
pub lines-had :
    (l : Lines) (memory events : List ℕ) (r : EventLines) → r ≡ counted l → events ≡ over memory l → record { events = take r.count events; at = r.at } ≡ l
lines-had l memory events r read written =
    rw (read, written) (ap (λ (es : List ℕ). record { events = es; at = l.at }) (take-append_seam l.events (drop (length l.events) memory)))
