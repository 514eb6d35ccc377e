-- How command bytes are answered: the answer to a byte that was made from the table; exactly when each answer comes; that a command which is not
-- taken changes nothing; and that an answer counts once at most.
use mathlib.Core.Bool.{Bool, true, false, cond, ◌||◌}
use mathlib.Core.List.{List, [], ◌∷◌, map}
use mathlib.Core.Logic.{◌⊎◌, ◌↔◌, inl, inr}
use mathlib.Core.Path.{◌≡◌, refl, sym, ap, ◌∙◌, subst}
use Prim.Native.Nat.{ℕ, zero, suc, ◌+◌, ◌*◌, ◌%◌, ◌^◌, ◌≤◌, ◌<◌, suc-le-suc, zero-le}
use native.Mathlib.Decide.{dec_lt, ℕ_discrete}
use native.Mathlib.Nat.{le_of_suc-le-suc, not-suc-le-zero, mod-lt}
use native.Mathlib.Omega.{arith}
use borrow.Author.Tests.{eqb-true, lt-ltb, le-ltb, lt-leb, leb-false, ltb-true}
use lib.Dec.{eqb, leb, ltb}
use lib.ListN.{get_or, length, get_or-map, get_or-eq_default}
use lib.Pow.{pow_pos}
use Rattle.registers.specs.declared.Registers.{Registers}
use Rattle.registers.specs.Encode.{row_byte, holds_in_range}
use Rattle.registers.specs.Places.{H, X, Y}
use Rattle.registers.specs.Record.{limits, put, reset_registers}
use Rattle.registers.specs.Table.{Row, Part, row, part, rows, no_row, matches, matches_at, taken, in_range, or_next, row_among, row_at}
use Rattle.registers.specs.Table.Target.{bounded}
use Rattle.registers.proofs.Below.{true-false, and-true, or-false, or-true}
use Rattle.registers.proofs.Encode.{FitParts, row-encodes, row-found, encodes-in-range}
use Rattle.registers.proofs.TableTest.{row_no}
use Rattle.registers.proofs.Within.{both_left, both_right}
use Rattle.commands.specs.declared.answer.CommandAnswer.{CommandAnswer}
use Rattle.commands.specs.declared.answer.CommandAnswer.TheVariants.{Taken, Unknown, OutOfRange}
use Rattle.commands.specs.Command.{parts_at, command_of, row_answer, answer_to, command_number, counts}
use Rattle.commands.specs.When.{OfNoRow, OfSomeRow, TooHigh, NoSuchAddress, CommandWhen}
use Rattle.commands.proofs.CodeWays.{other-in-range}

taken_out : Taken ≡ OutOfRange → ⊥
taken_out e = omega (arith, ap command_number e)

-- ---- a row that takes the byte is found, and what is found takes it

found-matches : (h b : ℕ) (ws : List Row) → row_among h b ws < length ws → matches h b (get_or ws (row_among h b ws) no_row) ≡ true
found-matches h b [] l = absurd (not-suc-le-zero l)
found-matches h b (w ∷ ws) l = go (matches h b w) refl (found-matches h b ws) l
  where
    go :
        (t : Bool) → matches h b w ≡ t → (row_among h b ws < length ws → matches h b (get_or ws (row_among h b ws) no_row) ≡ true)
        → or_next t (row_among h b ws) < suc (length ws) → matches h b (get_or (w ∷ ws) (or_next t (row_among h b ws)) no_row) ≡ true
    go true e rest l = e
    go false e rest l = rest (le_of_suc-le-suc l)

matched-found : (h b : ℕ) (ws : List Row) (i : ℕ) → i < length ws → matches h b (get_or ws i no_row) ≡ true → row_among h b ws < length ws
matched-found h b [] i l e = absurd (not-suc-le-zero l)
matched-found h b (w ∷ ws) zero l e = rw e (suc-le-suc zero-le)
matched-found h b (w ∷ ws) (suc i) l e = go (matches h b w) (matched-found h b ws i (le_of_suc-le-suc l) e)
  where
    go : (t : Bool) → row_among h b ws < length ws → or_next t (row_among h b ws) < suc (length ws)
    go true rest = suc-le-suc zero-le
    go false rest = suc-le-suc rest

-- ---- the answer to a byte made from the table

-- in its own page, a row's byte is taken where its numbers are in range, and else out of range
pub row-answer :
    (i : ℕ) → i < 21 → (t : Registers) → FitParts (row_no i).parts t → (h : ℕ) → h ≤ 4 → (row_no i).page ≡ h
    → answer_to h (row_byte (row_no i) t) ≡ cond (holds_in_range (row_no i).parts t) Taken OutOfRange
unfolding answer_to
row-answer i l t fit h lh e =
    ap (λ (j : ℕ). row_answer j (row_byte (row_no i) t)) (row-found i l t fit h lh e)
    ∙ ap (λ (x : Bool). cond x (cond (in_range (parts_at i) (row_byte (row_no i) t)) Taken OutOfRange) Unknown) (lt-ltb i 21 l)
    ∙ ap (λ (ps : List Part). cond (in_range ps (row_byte (row_no i) t)) Taken OutOfRange) (get_or-map (λ (w : Row). w.parts) rows i no_row)
    ∙ ap (λ (x : Bool). cond x Taken OutOfRange) (encodes-in-range (row_no i).parts (row_byte (row_no i) t) t (row-encodes i l t fit))

-- NOP and page return in any page, and row block swapping with whatever it says
pub nop-taken : (h : ℕ) → answer_to h 0b0000_0000 ≡ Taken
unfolding answer_to row_at
nop-taken h = rw (or-true (eqb 8 h))

pub return-taken : (h : ℕ) → answer_to h 0b0000_0001 ≡ Taken
unfolding answer_to row_at
return-taken h = rw (or-true (eqb 8 h))

pub swap-taken : (k : ℕ) → k < 4 → answer_to 4 (0b0100_0000 + 8 * k) ≡ Taken
unfolding answer_to row_at
swap-taken zero l = refl
swap-taken (suc zero) l = refl
swap-taken (suc (suc zero)) l = refl
swap-taken (suc (suc (suc zero))) l = refl
swap-taken (suc (suc (suc (suc k)))) l = absurd (omega arith)

-- ---- what an answer says of the row and its numbers

abbrev Says : Bool → Bool → CommandAnswer → Type 0
Says found fits Taken = (found ≡ true) × (fits ≡ true)
Says found fits Unknown = found ≡ false
Says found fits OutOfRange = (found ≡ true) × (fits ≡ false)

says : (found fits : Bool) (a : CommandAnswer) → cond found (cond fits Taken OutOfRange) Unknown ≡ a → Says found fits a
says true true a e = subst (Says true true) e (refl, refl)
says true false a e = subst (Says true false) e (refl, refl)
says false fits a e = subst (Says false fits) e refl

module _ (h b : ℕ) where
  none_found : OfNoRow h b → answer_to h b ≡ Unknown
  unfolding answer_to row_at
  none_found none = go (dec_lt (row_at h b) 21)
    where
      go : Dec (row_at h b < 21) → row_answer (row_at h b) b ≡ Unknown
      go (yes l) = absurd (true-false (sym (found-matches h b rows l) ∙ none (row_at h b) l))
      go (no n) = rw (le-ltb (row_at h b) 21 (omega arith))

  found_none : answer_to h b ≡ Unknown → OfNoRow h b
  unfolding answer_to row_at
  found_none e i l = go (matches_at i h b) refl
    where
      go : (t : Bool) → matches_at i h b ≡ t → t ≡ false
      go true q = absurd (true-false (sym (lt-ltb (row_at h b) 21 (matched-found h b rows i l q)) ∙ says (ltb (row_at h b) 21) (in_range (parts_at (row_at h b)) b) Unknown e))
      go false q = refl

  found_some : answer_to h b ≡ Taken → OfSomeRow h b
  unfolding answer_to row_at
  found_some e =
      let l = ltb-true (row_at h b) 21 (says _ (in_range (parts_at (row_at h b)) b) Taken e).0 in
      (row_at h b, l, found-matches h b rows l)

-- ---- out of range

-- the row in page 0 whose one part, at bit 0, is a register with a bound
abbrev bounding : ℕ → ℕ → ℕ → Row
bounding code f width = row 0 code (part (bounded f) 0 width ∷ [])

-- row i is one of the three that have a bound
abbrev BoundRow : ℕ → Type 0
BoundRow i = (i ≡ 2) ⊎ ((i ≡ 4) ⊎ (i ≡ 5))

out-rows : (i b : ℕ) → in_range (parts_at i) b ≡ false → BoundRow i
out-rows i b out = go (ℕ_discrete i 2) (ℕ_discrete i 4) (ℕ_discrete i 5)
  where
    go : Dec (i ≡ 2) → Dec (i ≡ 4) → Dec (i ≡ 5) → BoundRow i
    go (yes q) _ _ = inl q
    go (no _) (yes q) _ = inr (inl q)
    go (no _) (no _) (yes q) = inr (inr q)
    go (no n2) (no n4) (no n5) = absurd (true-false (other-in-range i b n2 n4 n5 ∙ out))

-- a byte of such a row that is not in range has a number above the limit
bounding-high :
    (code f width h b : ℕ) → matches h b (bounding code f width) ≡ true → in_range (bounding code f width).parts b ≡ false
    → (h ≡ 0) × TooHigh (get_or limits f 0) code width b
bounding-high code f width h b m out = (
  sym (eqb-true 0 h (sym (or-false (eqb 0 h)) ∙ both_left (eqb 0 h || false) _ m)),
  record {
    number = b % 2 ^ width;
    says = eqb-true _ _ (both_right (eqb 0 h || false) _ m) ∙ omega arith;
    above_limit = leb-false _ _ (sym (and-true (leb (b % 2 ^ width) (get_or limits f 0))) ∙ out);
    in_bits = mod-lt b (pow_pos width);
  },
)

-- and such a number is answered so, where t says it
high-out :
    (i n code : ℕ) (t : Registers) → i < 21 → FitParts (row_no i).parts t → (row_no i).page ≡ 0 → row_byte (row_no i) t ≡ code + n
    → holds_in_range (row_no i).parts t ≡ false → (b : ℕ) → b ≡ code + n → answer_to 0 b ≡ OutOfRange
high-out i n code t l fit page same out b q =
    subst (λ (c : ℕ). answer_to 0 c ≡ OutOfRange) (same ∙ sym q) (row-answer i l t fit 0 zero-le page ∙ rw out)

address-out : (b : ℕ) → TooHigh 4 8 3 b ⊎ (TooHigh 16 64 5 b ⊎ TooHigh 100 128 7 b) → answer_to 0 b ≡ OutOfRange
address-out b (inl a) =
    let n = a.number in
    high-out 2 n 8 (put H n reset_registers) (omega arith) (a.in_bits, tt) refl (omega arith) (simp (lt-leb n 4 a.above_limit)) b a.says
address-out b (inr (inl a)) =
    let n = a.number in
    high-out 4 n 64 (put Y n reset_registers) (omega arith) (a.in_bits, tt) refl (omega arith) (simp (lt-leb n 16 a.above_limit)) b a.says
address-out b (inr (inr a)) =
    let n = a.number in
    high-out 5 n 128 (put X n reset_registers) (omega arith) (a.in_bits, tt) refl (omega arith) (simp (lt-leb n 100 a.above_limit)) b a.says

out-address : (h b : ℕ) → answer_to h b ≡ OutOfRange → NoSuchAddress h b
unfolding answer_to row_at
out-address h b e =
    let i = row_at h b in
    let so = says (ltb i 21) (in_range (parts_at i) b) OutOfRange e in
    go i (found-matches h b rows (ltb-true i 21 so.0)) so.1 (out-rows i b so.1)
  where
    at_row :
        (i k : ℕ) → i ≡ k → matches_at i h b ≡ true → in_range (parts_at i) b ≡ false → (matches_at k h b ≡ true) × (in_range (parts_at k) b ≡ false)
    at_row i k q m out = subst (λ (j : ℕ). (matches_at j h b ≡ true) × (in_range (parts_at j) b ≡ false)) q (m, out)

    go : (i : ℕ) → matches_at i h b ≡ true → in_range (parts_at i) b ≡ false → BoundRow i → NoSuchAddress h b
    go i m out (inl q) = let x = at_row i 2 q m out in let a = bounding-high 8 H 3 h b x.0 x.1 in (a.0, inl a.1)
    go i m out (inr (inl q)) = let x = at_row i 4 q m out in let a = bounding-high 64 Y 5 h b x.0 x.1 in (a.0, inr (inl a.1))
    go i m out (inr (inr q)) = let x = at_row i 5 q m out in let a = bounding-high 128 X 7 h b x.0 x.1 in (a.0, inr (inr a.1))

-- ---- exactly when

module _ (h b : ℕ) where
  when-so : (a : CommandAnswer) → CommandWhen h b a → answer_to h b ≡ a
  when-so OutOfRange w = ap (λ (n : ℕ). answer_to n b) w.0 ∙ address-out b w.1
  when-so Unknown w = none_found h b w
  when-so Taken w = go (answer_to h b) refl
    where
      go : (x : CommandAnswer) → answer_to h b ≡ x → x ≡ Taken
      go Taken e = refl
      go Unknown e = absurd (true-false (sym w.0.2 ∙ found_none h b e w.0.0 w.0.1))
      go OutOfRange e = absurd (w.1 (out-address h b e))

  so-when : (a : CommandAnswer) → answer_to h b ≡ a → CommandWhen h b a
  so-when Taken e = (found_some h b e, λ out. taken_out (sym e ∙ when-so OutOfRange out))
  so-when Unknown e = found_none h b e
  so-when OutOfRange e = out-address h b e

  -- each of the three comes exactly when the sheet says
  pub answer-exactly : (a : CommandAnswer) → (answer_to h b ≡ a) ↔ CommandWhen h b a
  answer-exactly a = (so-when a, when-so a)

-- ---- a command that is not taken changes nothing

-- a number out of range leaves its register, and no other part is there
out-kept : (f width b : ℕ) (r : Registers) → in_range (part (bounded f) 0 width ∷ []) b ≡ false → taken (part (bounded f) 0 width ∷ []) b r ≡ r
out-kept f width b r out = rw (sym (and-true (leb (b % 2 ^ width) (get_or limits f 0))) ∙ out)

pub untaken-kept : (b : ℕ) (r : Registers) → (answer_to r.h b ≡ Taken → ⊥) → command_of b r ≡ r
unfolding command_of answer_to
untaken-kept b r untaken = go (row_at r.h b) (dec_lt (row_at r.h b) 21) untaken
  where
    at_row : (i k : ℕ) → i ≡ k → (in_range (parts_at k) b ≡ false → taken (parts_at k) b r ≡ r) → in_range (parts_at i) b ≡ false → taken (parts_at i) b r ≡ r
    at_row i k q kept = subst (λ (j : ℕ). in_range (parts_at j) b ≡ false → taken (parts_at j) b r ≡ r) (sym q) kept

    by_row : (i : ℕ) → BoundRow i → in_range (parts_at i) b ≡ false → taken (parts_at i) b r ≡ r
    by_row i (inl q) = at_row i 2 q (out-kept H 3 b r)
    by_row i (inr (inl q)) = at_row i 4 q (out-kept Y 5 b r)
    by_row i (inr (inr q)) = at_row i 5 q (out-kept X 7 b r)

    in_table : (i : ℕ) → i < 21 → (t : Bool) → in_range (parts_at i) b ≡ t → (row_answer i b ≡ Taken → ⊥) → taken (parts_at i) b r ≡ r
    in_table i l true q n = absurd (n (rw (lt-ltb i 21 l, q)))
    in_table i l false q n = by_row i (out-rows i b q) q

    go : (i : ℕ) → Dec (i < 21) → (row_answer i b ≡ Taken → ⊥) → taken (parts_at i) b r ≡ r
    go i (yes l) n = in_table i l (in_range (parts_at i) b) refl n
    go i (no p) n = ap (λ (ps : List Part). taken ps b r) (get_or-eq_default (map (λ (w : Row). w.parts) rows) [] {n = i} (omega arith))

-- ---- an answer counts once at most

pub counts-once : (k a : CommandAnswer) → counts k a ≤ 1
counts-once k a = go (eqb (command_number a) (command_number k))
  where
    go : (t : Bool) → cond t 1 0 ≤ 1
    go true = omega arith
    go false = omega arith
