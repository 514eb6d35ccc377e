-- What is promised of messages: whatever a file is called, a message is one line.
use mathlib.Core.Bool.{Bool, true, false, cond, ◌||◌}
use mathlib.Core.List.{List, [], ◌∷◌, ◌++◌}
use mathlib.Core.Path.{◌≡◌, refl, ap, ◌∙◌}
use Prim.Native.Nat.{ℕ, suc}
use native.Mathlib.Omega.{arith}
use borrow.Author.Tests.{ltb-false, ne_eqb}
use lib.Dec.{eqb, ltb}
use Rattle.text.specs.Text.{bytes, count_of}
use Rattle.text.proofs.Finding.{count-append}
use Rattle.program_io.specs.Messages.{shown_byte, shown_of, name_of, title_of, message_of, usage_of, wrong_call_of}

-- ---- a name has no newline

byte-shown : (b : ℕ) → eqb (shown_byte b) 10 ≡ false
byte-shown b = go (ltb b 32) refl (eqb b 127)
  where
    go : (t : Bool) → ltb b 32 ≡ t → (u : Bool) → eqb (cond (t || u) 63 b) 10 ≡ false
    go true e u = refl
    go false e true = refl
    go false e false = ne_eqb b 10 (λ h. omega (arith, ltb-false b 32 e))

shown-in-one-line : (s : List ℕ) → count_of 10 (shown_of s) ≡ 0
shown-in-one-line [] = refl
shown-in-one-line (b ∷ bs) = ap (λ (t : Bool). cond t (suc (count_of 10 (shown_of bs))) (count_of 10 (shown_of bs))) (byte-shown b) ∙ shown-in-one-line bs

pub name-in-one-line : (s : List ℕ) → count_of 10 (name_of s) ≡ 0
name-in-one-line [] = refl
name-in-one-line (b ∷ bs) = shown-in-one-line (b ∷ bs)

-- ---- what is said is one line, if the program's own words have no newline

module _ (program : List ℕ) (named : count_of 10 program ≡ 0) where
  pub title-in-one-line : (name : List ℕ) → count_of 10 (title_of program name) ≡ 0
  title-in-one-line name =
      omega (arith, count-append 10 (program ++ bytes ": ") (name_of name), count-append 10 program (bytes ": "), name-in-one-line name)

  pub message-is-one-line : (message : List ℕ) → count_of 10 message ≡ 0 → count_of 10 (message_of program message) ≡ 1
  message-is-one-line message h =
      omega (
        arith,
        count-append 10 (program ++ bytes ": " ++ message) (10 ∷ []),
        count-append 10 (program ++ bytes ": ") message,
        count-append 10 program (bytes ": "),
      )

  pub wrong-call-is-one-line :
      (fault usage : List ℕ) → count_of 10 fault ≡ 0 → count_of 10 usage ≡ 0 → count_of 10 (wrong_call_of program fault usage) ≡ 1
  wrong-call-is-one-line fault usage h u =
      omega (
        arith,
        count-append 10 (program ++ bytes ": " ++ fault ++ bytes "; ") (usage_of usage),
        count-append 10 (program ++ bytes ": " ++ fault) (bytes "; "),
        count-append 10 (program ++ bytes ": ") fault,
        count-append 10 program (bytes ": "),
        count-append 10 (bytes "usage: " ++ usage) (10 ∷ []),
        count-append 10 (bytes "usage: ") usage,
      )
