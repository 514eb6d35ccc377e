-- Samples tested one after the other.
use mathlib.Core.Bool.{Bool, ◌&&◌, true, and_assoc, and-true}
use mathlib.Core.List.{List, [], ◌∷◌, ◌++◌}
use mathlib.Core.Path.{◌≡◌, refl, sym, ap, ◌∙◌}
use Prim.Native.Nat.{ℕ}
use lib.Dec.{leb}
use Rattle.wire_samples.specs.Feed.{are_samples}

one-more : (ss : List ℕ) (s : ℕ) → are_samples (ss ++ (s ∷ [])) ≡ are_samples ss && leb s 3
unfolding are_samples
one-more [] s = and-true (leb s 3)
one-more (x ∷ ss) s = ap (λ (b : Bool). leb x 3 && b) (one-more ss s) ∙ sym (and_assoc (leb x 3) (are_samples ss) (leb s 3))

pub tested-more : (ss : List ℕ) (good : Bool) (s : ℕ) (now : Bool) → good ≡ are_samples ss → now ≡ (good && leb s 3) → now ≡ are_samples (ss ++ (s ∷ []))
tested-more ss good s now e f = f ∙ ap (λ (b : Bool). b && leb s 3) e ∙ sym (one-more ss s)

pub none-tested : true ≡ are_samples []
unfolding are_samples
none-tested = refl
