-- Ways through the code, over plain variables: what is printed part by part is the whole line.
use mathlib.Core.Path.{◌≡◌}
use mathlib.Core.List.{List, [], ◌∷◌, ◌++◌, append_assoc}
use Prim.Native.Nat.{ℕ}

pub pixel-fields : (a b c : List ℕ) → (a ++ (32 ∷ [])) ++ ((b ++ (32 ∷ [])) ++ (c ++ (10 ∷ []))) ≡ (a ++ 32 ∷ (b ++ 32 ∷ c)) ++ (10 ∷ [])
pixel-fields a b c = simp append_assoc
