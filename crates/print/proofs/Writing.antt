-- What was written one after the other was written together, and what it is where there is room.
use mathlib.Core.Path.{◌≡◌, refl, sym, ap, ◌∙◌, subst}
use mathlib.Core.Bool.{Bool, true, false, cond}
use mathlib.Core.List.{List, [], ◌∷◌, ◌++◌, append_assoc, append-nil}
use Prim.Native.Nat.{ℕ, zero, suc, ◌+◌, ◌*◌, ◌-◌, ◌≤◌, ◌<◌}
use native.Mathlib.Nat.{add-zero, zero-add, suc-add, add-suc, zero-mul, suc-mul}
use native.Mathlib.Omega.{arith}
use borrow.Author.Tests.{le-leb, leb-true, leb-false}
use lib.Dec.{leb}
use lib.ListN.{length, get_or, take, drop, set, length-append, length-set, get_or-append}
use lib.Seq.{sets, set_out, length-sets, sets-eq, take_at, take_all, length-take-le, get_or-append-add}
use Rattle.std.proofs.lemmas.List.{take_more}
use Rattle.text.specs.Text.{count_of}
use Rattle.text.proofs.Finding.{count-append}
use Rattle.print.specs.declared.Printout.{Printout}
use Rattle.print.specs.Printed.{top, place_after, Wrote, parts_from}
use Rattle.print.specs.Prints.{Prints}

-- ---- the place after n bytes

pub after-fits : (i n : ℕ) → i + n ≤ top → place_after i n ≡ i + n
after-fits i n h = rw (le-leb (i + n) top h)

pub after-top : (i n : ℕ) → top ≤ i + n → place_after i n ≡ top
after-top i n h = go (leb (i + n) top) refl
  where
    go : (t : Bool) → leb (i + n) top ≡ t → cond t (i + n) top ≡ top
    go true e = omega (arith, leb-true (i + n) top e)
    go false e = refl

pub after-bound : (i n : ℕ) → place_after i n ≤ top
after-bound i n = go (leb (i + n) top) refl
  where
    go : (t : Bool) → leb (i + n) top ≡ t → cond t (i + n) top ≤ top
    go true e = leb-true (i + n) top e
    go false e = omega arith

pub after-after : (i n m : ℕ) → place_after (place_after i n) m ≡ place_after i (n + m)
after-after i n m = go (leb (i + n) top) refl
  where
    go : (t : Bool) → leb (i + n) top ≡ t → place_after (cond t (i + n) top) m ≡ place_after i (n + m)
    go true e = let same : i + n + m ≡ i + (n + m) = omega arith in rw same
    go false e = after-top top m (omega arith) ∙ sym (after-top i (n + m) (omega (arith, leb-false (i + n) top e)))

-- ---- stores

pub sets-append : (l : List ℕ) (i : ℕ) (xs ys : List ℕ) → sets l i (xs ++ ys) ≡ sets (sets l i xs) (i + length xs) ys
sets-append l i [] ys = ap (λ (k : ℕ). sets l k ys) (sym (add-zero i))
sets-append l i (x ∷ xs) ys =
    sets-append (set l i x) (suc i) xs ys
    ∙ ap (λ (k : ℕ). sets (sets (set l i x) (suc i) xs) k ys) (suc-add i (length xs) ∙ sym (add-suc i (length xs)))

-- past the end there is no place
sets-out : (l : List ℕ) (i : ℕ) (xs : List ℕ) → length l ≤ i → sets l i xs ≡ l
sets-out l i [] h = refl
sets-out l i (x ∷ xs) h =
    sets-out (set l i x) (suc i) xs (omega (arith, length-set l i x)) ∙ set_out l i x h

sets-after : (l : List ℕ) (i n : ℕ) (xs : List ℕ) → length l ≤ top → sets l (place_after i n) xs ≡ sets l (i + n) xs
sets-after l i n xs h = go (leb (i + n) top) refl
  where
    go : (t : Bool) → leb (i + n) top ≡ t → sets l (cond t (i + n) top) xs ≡ sets l (i + n) xs
    go true e = refl
    go false e = sets-out l top xs h ∙ sym (sets-out l (i + n) xs (omega (arith, leb-false (i + n) top e)))

-- ---- one text after the other

pub wrote_then :
    {l m r : List ℕ} {i j k : ℕ} {xs ys : List ℕ} → length l ≤ top → Wrote l i xs m j → Wrote m j ys r k → Wrote l i (xs ++ ys) r k
wrote_then {l} {m} {r} {i} {j} {k} {xs} {ys} h a b =
    record {
      list =
          b.list
          ∙ ap (λ (n : ℕ). sets m n ys) a.next
          ∙ ap (λ (n : List ℕ). sets n (place_after i (length xs)) ys) a.list
          ∙ sets-after (sets l i xs) i (length xs) ys (omega (arith, length-sets l i xs))
          ∙ sym (sets-append l i xs ys);
      next =
          b.next
          ∙ ap (λ (n : ℕ). place_after n (length ys)) a.next
          ∙ after-after i (length xs) (length ys)
          ∙ ap (λ (n : ℕ). place_after i n) (sym (length-append xs ys));
    }

-- a buffer keeps its length
pub wrote-length : {l m : List ℕ} {i j : ℕ} {xs : List ℕ} → Wrote l i xs m j → length m ≡ length l
wrote-length {l} {m} {i} {j} {xs} w = ap (λ (k : List ℕ). length k) w.list ∙ length-sets l i xs

pub wrote-three :
    {l m n r xs ys zs : List ℕ} {i j k e : ℕ} → length l ≤ top → Wrote l i xs m j → Wrote m j ys n k → Wrote n k zs r e
    → Wrote l i (xs ++ (ys ++ zs)) r e
wrote-three {m = m} h a b c = let hm : length m ≤ top = omega (arith, wrote-length a) in wrote_then h a (wrote_then hm b c)

pub wrote-next : {l m : List ℕ} {i j : ℕ} {xs : List ℕ} → Wrote l i xs m j → j ≤ top
wrote-next {i = i} {xs = xs} w = omega (arith, w.next, after-bound i (length xs))

pub wrote-same : {l m : List ℕ} {i j : ℕ} {xs ys : List ℕ} → xs ≡ ys → Wrote l i xs m j → Wrote l i ys m j
wrote-same {l} {m} {i} {j} e w = subst (λ (zs : List ℕ). Wrote l i zs m j) e w

-- what was written of a value that the code knows by its variant, or by a test
pub wrote-known :
    {A : Type 0} (f : A → List ℕ) (known : A) {v : A} {l m : List ℕ} {i j : ℕ} → v ≡ known → Wrote l i (f known) m j → Wrote l i (f v) m j
wrote-known f known e w = wrote-same (ap f (sym e)) w

pub wrote_none : (l : List ℕ) (i : ℕ) → i ≤ top → Wrote l i [] l i
wrote_none l i h = record { list = refl; next = sym (after-fits i 0 (omega arith) ∙ add-zero i) }

-- ---- parts, up to part number t: before part k, and at the end; and how long they are where each has at most b bytes

module _ (f : ℕ → List ℕ) (t k : ℕ) where
  pub parts-turn :
      {l m r : List ℕ} {i j e : ℕ} → k < t → length l ≤ top → Wrote l i (f k) m j → Wrote m j (parts_from f (k + 1) (t - (k + 1))) r e
      → Wrote l i (parts_from f k (t - k)) r e
  parts-turn h top-there a b =
      let more : t - k ≡ suc (t - (k + 1)) = omega arith in
      wrote-same (sym (ap (λ (n : ℕ). parts_from f k n) more)) (wrote_then top-there a b)

  pub parts-end : (l : List ℕ) (i : ℕ) → i ≤ top → t ≤ k → Wrote l i (parts_from f k (t - k)) l i
  parts-end l i h e = let none : t - k ≡ 0 = omega arith in wrote-same (sym (ap (λ (n : ℕ). parts_from f k n) none)) (wrote_none l i h)

pub parts-bound :
    (f : ℕ → List ℕ) (b t : ℕ) → ((j : ℕ) → j < t → length (f j) ≤ b) → (n k : ℕ) → k + n ≤ t
    → length (parts_from f k n) ≤ n * b
parts-bound f b t h zero k e = omega arith
parts-bound f b t h (suc n) k e =
    omega (
      arith,
      suc-mul n b,
      length-append (f k) (parts_from f (k + 1) n),
      h k (omega arith),
      parts-bound f b t h n (k + 1) (omega arith),
    )

-- parts of b bytes each: how long they are, and byte j of part i
module _ (f : ℕ → List ℕ) (b : ℕ) (all : (k : ℕ) → length (f k) ≡ b) where
  pub parts-length : (n k : ℕ) → length (parts_from f k n) ≡ n * b
  parts-length zero k = sym (zero-mul b)
  parts-length (suc n) k = omega (arith, suc-mul n b, length-append (f k) (parts_from f (k + 1) n), all k, parts-length n (k + 1))

  pub parts_at : (n k i j : ℕ) → i < n → j < b → get_or (parts_from f k n) (i * b + j) 0 ≡ get_or (f (k + i)) j 0
  parts_at zero k i j h l = absurd (omega arith)
  parts_at (suc n) k zero j h l =
      let here : 0 * b + j ≡ j = omega (arith, zero-mul b) in
      ap (λ (x : ℕ). get_or (f k ++ parts_from f (k + 1) n) x 0) here
      ∙ get_or-append (f k) (parts_from f (k + 1) n) 0 j (omega (arith, all k))
      ∙ ap (λ (x : ℕ). get_or (f x) j 0) (sym (add-zero k))
  parts_at (suc n) k (suc i) j h l =
      let past : suc i * b + j ≡ length (f k) + (i * b + j) = omega (arith, suc-mul i b, all k) in
      let next : k + 1 + i ≡ k + suc i = omega arith in
      ap (λ (x : ℕ). get_or (f k ++ parts_from f (k + 1) n) x 0) past
      ∙ get_or-append-add (f k) (parts_from f (k + 1) n) (i * b + j) 0
      ∙ parts_at n (k + 1) i j (omega arith) l
      ∙ ap (λ (x : ℕ). get_or (f x) j 0) next

-- the n parts before part p, that part, and the m after it
pub parts-split :
    (f : ℕ → List ℕ) (n m k p t : ℕ) → p ≡ k + n → t ≡ n + suc m → parts_from f k t ≡ parts_from f k n ++ (f p ++ parts_from f (p + 1) m)
parts-split f zero m k p t ep et =
    let here : p ≡ k = omega arith in
    let all : t ≡ suc m = omega arith in
    rw (here, all)
parts-split f (suc n) m k p t ep et =
    let all : t ≡ suc (n + suc m) = omega arith in
    ap (λ (x : ℕ). parts_from f k x) all
    ∙ ap (λ (l : List ℕ). f k ++ l) (parts-split f n m (k + 1) p (n + suc m) (omega arith) refl)
    ∙ sym (append_assoc (f k) (parts_from f (k + 1) n) (f p ++ parts_from f (p + 1) m))

pub parts-count : (b : ℕ) (f : ℕ → List ℕ) → ((k : ℕ) → count_of b (f k) ≡ 1) → (n k : ℕ) → count_of b (parts_from f k n) ≡ n
parts-count b f h zero k = refl
parts-count b f h (suc n) k = omega (arith, count-append b (f k) (parts_from f (k + 1) n), h k, parts-count b f h n (k + 1))

-- what stands before the next place: what stood there before, and the text
pub wrote-read : {l m : List ℕ} {i j : ℕ} {xs : List ℕ} → i + length xs ≤ length l → Wrote l i xs m j → take (i + length xs) m ≡ take i l ++ xs
wrote-read {l} {m} {i} {j} {xs} h w =
    ap (λ (k : List ℕ). take (i + length xs) k) (w.list ∙ sets-eq xs l i h)
    ∙ take_at (take i l ++ xs) (drop (i + length xs) l) (i + length xs) (omega (arith, length-append (take i l) xs, length-take-le i l (omega arith)))

-- a buffer that is as long as what was written from its start on is what was written
pub wrote-all : {l m xs : List ℕ} {j : ℕ} → length xs ≡ length l → Wrote l 0 xs m j → m ≡ xs
wrote-all {l} {m} {xs} e w =
    sym (take_all (0 + length xs) m (omega (arith, wrote-length w, zero-add (length xs)))) ∙ wrote-read (omega (arith, zero-add (length xs))) w

-- ---- one text printed after the other

pub prints_then : {p q r : Printout} {xs ys : List ℕ} → Prints p xs q → Prints q ys r → Prints p (xs ++ ys) r
prints_then a b = record { sized = a.sized; buffer = b.buffer ∙ a.buffer; wrote = λ h. let first = a.wrote h in wrote_then a.sized first (b.wrote (wrote-next first)) }

pub prints_none : (p : Printout) → length p.out.now ≤ top → Prints p [] p
prints_none p sized = record { sized = sized; buffer = refl; wrote = wrote_none _ _ }

pub prints-same : {p q : Printout} {xs ys : List ℕ} → xs ≡ ys → Prints p xs q → Prints p ys q
prints-same {p} {q} e a = subst (λ (zs : List ℕ). Prints p zs q) e a

-- what was printed of a value that the code knows by its variant, or by a test
pub prints-known : {A : Type 0} (f : A → List ℕ) (known : A) {v : A} {p q : Printout} → v ≡ known → Prints p (f known) q → Prints p (f v) q
prints-known f known e a = prints-same (ap f (sym e)) a

-- parts 0 to k - 1, and then part k
pub prints-part :
    (f : ℕ → List ℕ) (k : ℕ) {p q r : Printout} → Prints p (parts_from f 0 k) q → Prints q (f k) r → Prints p (parts_from f 0 (k + 1)) r
prints-part f k a b =
    prints-same (sym (parts-split f k 0 0 k (k + 1) (omega arith) (omega arith) ∙ ap (λ (l : List ℕ). parts_from f 0 k ++ l) (append-nil (f k)))) (prints_then a b)

-- and all n parts, after the last
pub prints-parts : (f : ℕ → List ℕ) {k n : ℕ} {p q : Printout} → k ≤ n → n ≤ k → Prints p (parts_from f 0 k) q → Prints p (parts_from f 0 n) q
prints-parts f {k} {n} h l a = let all : k ≡ n = omega arith in prints-same (ap (λ (i : ℕ). parts_from f 0 i) all) a

-- bytes 0 to k - 1 of s, and then byte k; and all of them, after the last
pub prints-next :
    (s : List ℕ) (k : ℕ) {p q r : Printout} → k < length s → Prints p (take k s) q → Prints q (get_or s k 0 ∷ []) r → Prints p (take (k + 1) s) r
prints-next s k h a b = prints-same (sym (take_more s k 0 h)) (prints_then a b)

pub prints-all : (s : List ℕ) {k : ℕ} {p q : Printout} → length s ≤ k → Prints p (take k s) q → Prints p s q
prints-all s {k} h a = prints-same (take_all k s h) a
