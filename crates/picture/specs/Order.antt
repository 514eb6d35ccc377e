-- Where a pixel stands in the text of the picture.
use Rattle.std.specs.Prelude.{List, ◌++◌, ◌≡◌, ℕ}
use Rattle.text.specs.Text.{count_of}

-- line n of the text, from 0, its newline with it: n newlines stand before it
pub record LineAt (text : List ℕ) (n : ℕ) (line : List ℕ) : Type 0 where
  pub front : List ℕ
  pub back : List ℕ
  pub whole : text ≡ front ++ (line ++ back)
  pub before : count_of 10 front ≡ n
