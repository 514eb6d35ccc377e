-- Bytes as text: places of a byte, pieces parted by a separator, words.
use Rattle.std.specs.Prelude.{Bool, true, false, cond, ◌&&◌, List, [], ◌∷◌, ◌++◌, ℕ, suc, ◌+◌, eqb, leb, length, drop}
use Prim.Native.Char.{code}
use Prim.Native.String.{String}

-- the bytes of a quoted text of ASCII letters
abbrev pub bytes : String → List ℕ
bytes Prim.Native.String.[] = []
bytes (Prim.Native.String.◌∷◌ c s) = code c ∷ bytes s

-- how many bytes stand before the first b, or all
abbrev pub before : ℕ → List ℕ → ℕ
before b [] = 0
before b (x ∷ xs) = cond (eqb x b) 0 (suc (before b xs))

-- the first place at or after `from` where b stands; else the length, also where `from` lies past the end
unfoldable pub find_of : List ℕ → ℕ → ℕ → ℕ
find_of s from b = cond (leb from (length s)) (from + before b (drop from s)) (length s)

-- how many bytes equal b
abbrev pub count_of : ℕ → List ℕ → ℕ
count_of b [] = 0
count_of b (x ∷ xs) = cond (eqb x b) (suc (count_of b xs)) (count_of b xs)

-- the same bytes
abbrev pub same_bytes : List ℕ → List ℕ → Bool
same_bytes [] [] = true
same_bytes [] (y ∷ ys) = false
same_bytes (x ∷ xs) [] = false
same_bytes (x ∷ xs) (y ∷ ys) = eqb x y && same_bytes xs ys

-- x in front of the first piece
abbrev pub on_first : ℕ → List (List ℕ) → List (List ℕ)
on_first x [] = (x ∷ []) ∷ []
on_first x (p ∷ ps) = (x ∷ p) ∷ ps

-- the pieces that b parts: one more than there are b
abbrev pub split : ℕ → List ℕ → List (List ℕ)
split b [] = [] ∷ []
split b (x ∷ xs) = cond (eqb x b) ([] ∷ split b xs) (on_first x (split b xs))

-- the pieces with one b between any two
abbrev pub join : ℕ → List (List ℕ) → List ℕ
join b [] = []
join b (p ∷ []) = p
join b (p ∷ q ∷ ps) = p ++ b ∷ join b (q ∷ ps)

-- how many words stand before the first that equals w, or all
abbrev pub index_of : List ℕ → List (List ℕ) → ℕ
index_of w [] = 0
index_of w (p ∷ ps) = cond (same_bytes p w) 0 (suc (index_of w ps))
