-- What the programs say: a message is one line that begins with the program's own name.
use Rattle.std.specs.Prelude.{Bool, cond, ◌||◌, List, [], ◌∷◌, ◌++◌, ◌≡◌, ℕ, ◌≤◌, min, eqb, ltb, length}
use Rattle.std.proofs.lemmas.List.Edits.{sets}
use Rattle.text.specs.Text.{bytes, same_bytes}

-- ---- words that mean something as an argument

-- how the program is called is asked for
abbrev pub is_help : List ℕ → Bool
is_help word = same_bytes word (bytes "--help")

-- standard input is meant
abbrev pub is_dash : List ℕ → Bool
is_dash word = same_bytes word (bytes "-")

-- ---- names

-- a byte as it is shown: `?` for the bytes 0 to 31 and 127, which would break or move the line
abbrev pub shown_byte : ℕ → ℕ
shown_byte b = cond (ltb b 32 || eqb b 127) 63 b

abbrev pub shown_of : List ℕ → List ℕ
shown_of [] = []
shown_of (b ∷ bs) = shown_byte b ∷ shown_of bs

-- a name of no bytes is shown as two quotes
abbrev pub name_of : List ℕ → List ℕ
name_of [] = bytes "''"
name_of (b ∷ bs) = shown_of (b ∷ bs)

-- `PROGRAM: NAME`, what a message begins with that says why the system refused something
abbrev pub title_of : List ℕ → List ℕ → List ℕ
title_of program name = program ++ bytes ": " ++ name_of name

-- the bytes xs were stored at the start of l, those that it has places for, which left m; these are n bytes
pub record Began (l xs m : List ℕ) (n : ℕ) : Type 0 where
  pub list : m ≡ sets l 0 xs
  pub count : n ≡ min (length xs) (length l)
  pub inside : n ≤ length m

-- ---- lines

abbrev pub message_of : List ℕ → List ℕ → List ℕ
message_of program message = program ++ bytes ": " ++ message ++ (10 ∷ [])

abbrev pub usage_of : List ℕ → List ℕ
usage_of usage = bytes "usage: " ++ usage ++ (10 ∷ [])

-- what is wrong with a call, and how the program is called
abbrev pub wrong_call_of : List ℕ → List ℕ → List ℕ → List ℕ
wrong_call_of program fault usage = program ++ bytes ": " ++ fault ++ bytes "; " ++ usage_of usage
