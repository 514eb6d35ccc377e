-- Tests of all devices and how many pass one, over devices that are changed one by one.
use mathlib.Core.Bool.{Bool, true, false, cond, ◌&&◌, ◌||◌}
use mathlib.Core.List.{List, [], ◌∷◌, map}
use mathlib.Core.Logic.{◌⊎◌, inl, inr}
use mathlib.Core.Path.{◌≡◌, refl, sym, ap, ◌∙◌}
use Prim.Native.Nat.{ℕ, zero, suc, ◌+◌, ◌≤◌}
use native.Mathlib.Omega.{arith}
use Rattle.registers.proofs.Below.{false-true, true-false}
use Rattle.registers.proofs.Within.{both_left, both_right}
use Rattle.bus.specs.Bus.{Device, At, Somewhere, every, how_many}

-- ---- tests

pub joined : (a b : Bool) → a ≡ true → b ≡ true → a && b ≡ true
joined a b ea eb = rw (ea, eb)

pub either : (a b : Bool) → a || b ≡ true → (a ≡ true) ⊎ (b ≡ true)
either true b h = inl refl
either false b h = inr h

pub or_left : (a b : Bool) → a ≡ true → a || b ≡ true
or_left a b e = rw e

pub or_right : (a b : Bool) → b ≡ true → a || b ≡ true
or_right true b e = refl
or_right false b e = e

pub not_so : (t : Bool) → (t ≡ true → ⊥) → t ≡ false
not_so true n = absurd (n refl)
not_so false n = refl

-- what passes a test that leads to another
pub leads : (a b : Bool) → (a ≡ true → b ≡ true) → cond a 1 0 ≤ cond b 1 0
leads true true so = omega arith
leads true false so = absurd (false-true (so refl))
leads false true so = omega arith
leads false false so = omega arith

-- ---- places

-- all pass exactly if each at its place does
pub every-at : (f : Device → Bool) (ds : List Device) → every f ds ≡ true → (i : ℕ) (d : Device) → At i d ds → f d ≡ true
every-at f [] t i d a = absurd a
every-at f (x ∷ ds) t zero d a = ap f (sym a) ∙ both_left (f x) (every f ds) t
every-at f (x ∷ ds) t (suc i) d a = every-at f ds (both_right (f x) (every f ds) t) i d a

pub at_every : (f : Device → Bool) (ds : List Device) → ((i : ℕ) (d : Device) → At i d ds → f d ≡ true) → every f ds ≡ true
at_every f [] h = refl
at_every f (x ∷ ds) h = joined (f x) (every f ds) (h 0 x refl) (at_every f ds (λ i. h (suc i)))

-- some device does not pass
pub some-not : (f : Device → Bool) (ds : List Device) → every f ds ≡ false → Somewhere (λ (d : Device). f d ≡ false) ds
some-not f [] t = absurd (true-false t)
some-not f (x ∷ ds) t = go (f x) refl t (some-not f ds)
  where
    go :
        (a : Bool) → f x ≡ a → a && every f ds ≡ false → (every f ds ≡ false → Somewhere (λ (d : Device). f d ≡ false) ds)
        → Somewhere (λ (d : Device). f d ≡ false) (x ∷ ds)
    go true q t rest = let later = rest t in record { place = suc later.place; which = later.which; stands = later.stands; so = later.so }
    go false q t rest = record { place = 0; which = x; stands = refl; so = q }

pub at_map : (h : Device → Device) (ds : List Device) (i : ℕ) (d : Device) → At i d ds → At i (h d) (map h ds)
at_map h [] i d a = absurd a
at_map h (x ∷ ds) zero d a = ap h a
at_map h (x ∷ ds) (suc i) d a = at_map h ds i d a

-- at a place stands one device
pub at_same : (ds : List Device) (i : ℕ) (c d : Device) → At i c ds → At i d ds → c ≡ d
at_same [] i c d a b = absurd a
at_same (x ∷ ds) zero c d a b = sym a ∙ b
at_same (x ∷ ds) (suc i) c d a b = at_same ds i c d a b

-- ---- how many

none_of : (f : Device → Bool) (ds : List Device) → ((i : ℕ) (d : Device) → At i d ds → f d ≡ true → ⊥) → how_many f ds ≡ 0
none_of f [] h = refl
none_of f (x ∷ ds) h =
    let rest = none_of f ds (λ i. h (suc i)) in
    rw (not_so (f x) (h 0 x refl)) (omega arith)

some_of : (f : Device → Bool) (ds : List Device) (i : ℕ) (d : Device) → At i d ds → f d ≡ true → 1 ≤ how_many f ds
some_of f [] i d a t = absurd a
some_of f (x ∷ ds) zero d a t = rw (ap f a ∙ t) (omega arith)
some_of f (x ∷ ds) (suc i) d a t = omega (arith, some_of f ds i d a t)

-- at most one passes exactly if two places whose devices do are one place
pub one_place :
    (f : Device → Bool) (ds : List Device) → how_many f ds ≤ 1
    → (i j : ℕ) (c d : Device) → At i c ds → At j d ds → f c ≡ true → f d ≡ true → i ≡ j
one_place f [] l i j c d a b p q = absurd a
one_place f (x ∷ ds) l zero zero c d a b p q = refl
one_place f (x ∷ ds) l zero (suc j) c d a b p q =
    let here : cond {A = ℕ} (f x) 1 0 ≡ 1 = rw (ap f a ∙ p) in
    absurd (omega (arith, some_of f ds j d b q))
one_place f (x ∷ ds) l (suc i) zero c d a b p q =
    let here : cond {A = ℕ} (f x) 1 0 ≡ 1 = rw (ap f b ∙ q) in
    absurd (omega (arith, some_of f ds i c a p))
one_place f (x ∷ ds) l (suc i) (suc j) c d a b p q = ap suc (one_place f ds (omega arith) i j c d a b p q)

pub place-one :
    (f : Device → Bool) (ds : List Device) → ((i j : ℕ) (c d : Device) → At i c ds → At j d ds → f c ≡ true → f d ≡ true → i ≡ j)
    → how_many f ds ≤ 1
place-one f [] h = omega arith
place-one f (x ∷ ds) h = go (f x) refl (place-one f ds (λ i j c d a b p q. let same = h (suc i) (suc j) c d a b p q in omega arith))
  where
    go : (t : Bool) → f x ≡ t → how_many f ds ≤ 1 → cond t 1 0 + how_many f ds ≤ 1
    go true t rest = omega (arith, none_of f ds (λ i d a p. let same = h 0 (suc i) x d refl a t p in omega arith))
    go false t rest = omega arith

-- ---- devices that are changed one by one

pub map_same : (f g : Device → Device) → ((d : Device) → f d ≡ g d) → (ds : List Device) → map f ds ≡ map g ds
map_same f g so [] = refl
map_same f g so (d ∷ ds) = rw (so d, map_same f g so ds)

module _ (f g : Device → Bool) (h : Device → Device) where
  pub every_map : ((d : Device) → f d ≡ true → g (h d) ≡ true) → (ds : List Device) → every f ds ≡ true → every g (map h ds) ≡ true
  every_map so [] t = refl
  every_map so (d ∷ ds) t = joined (g (h d)) _ (so d (both_left (f d) (every f ds) t)) (every_map so ds (both_right (f d) (every f ds) t))

  pub every-same : ((d : Device) → g (h d) ≡ f d) → (ds : List Device) → every g (map h ds) ≡ every f ds
  every-same so [] = refl
  every-same so (d ∷ ds) = rw (so d, every-same so ds)

  pub as_many : ((d : Device) → g (h d) ≡ f d) → (ds : List Device) → how_many g (map h ds) ≡ how_many f ds
  as_many so [] = refl
  as_many so (d ∷ ds) = rw (so d, as_many so ds)

  -- where all pass w: no more pass g after than f before
  pub no_more :
      (w : Device → Bool) → ((d : Device) → w d ≡ true → g (h d) ≡ true → f d ≡ true)
      → (ds : List Device) → every w ds ≡ true → how_many g (map h ds) ≤ how_many f ds
  no_more w so [] t = omega arith
  no_more w so (d ∷ ds) t =
      omega (arith, leads (g (h d)) (f d) (so d (both_left (w d) (every w ds) t)), no_more w so ds (both_right (w d) (every w ds) t))
