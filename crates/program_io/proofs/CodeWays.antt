-- Ways through the code, over plain variables.
use mathlib.Core.Bool.{Bool, true, false, cond}
use mathlib.Core.List.{List, [], ◌∷◌, ◌++◌}
use mathlib.Core.Path.{◌≡◌, refl, sym, ap, ◌∙◌}
use Prim.Native.Nat.{ℕ, ◌+◌, ◌≤◌, ◌<◌}
use native.Mathlib.Omega.{arith}
use borrow.Author.Tests.{leb-false}
use lib.Dec.{leb}
use lib.ListN.{length, get_or, take}
use lib.Seq.{take_all}
use Rattle.std.specs.Prelude.{min}
use Rattle.text.specs.Text.{bytes}
use Rattle.std.proofs.lemmas.List.{take_more}
use Rattle.print.specs.Printed.{top, Wrote}
use Rattle.print.specs.declared.Printout.{Printout}
use Rattle.print.specs.Prints.{Prints}
use Rattle.print.proofs.Writing.{prints_then, prints-same, wrote-length}
use Rattle.program_io.specs.Messages.{shown_byte, shown_of, name_of, Began}

-- ---- a name: bytes 0 to k - 1 of it and then byte k, all of them, and which of the two it is

shown-append : (s t : List ℕ) → shown_of (s ++ t) ≡ shown_of s ++ shown_of t
shown-append [] t = refl
shown-append (b ∷ bs) t = rw (shown-append bs t)

module _ (s : List ℕ) (k : ℕ) where
  pub shown-next :
      (b : ℕ) {p q r : Printout} → k < length s → b ≡ shown_byte (get_or s k 0) → Prints p (shown_of (take k s)) q → Prints q (b ∷ []) r
      → Prints p (shown_of (take (k + 1) s)) r
  shown-next b h e a w =
      prints-same
      (sym (ap (λ (l : List ℕ). shown_of l) (take_more s k 0 h) ∙ shown-append (take k s) (get_or s k 0 ∷ [])))
      (prints_then a (prints-same (ap (λ (x : ℕ). x ∷ []) e) w))

pub shown-all : (s : List ℕ) {k : ℕ} {p q : Printout} → length s ≤ k → Prints p (shown_of (take k s)) q → Prints p (shown_of s) q
shown-all s {k} h a = prints-same (ap (λ (l : List ℕ). shown_of l) (take_all k s h)) a

pub name-none : (s : List ℕ) {p q : Printout} → length s ≡ 0 → Prints p (bytes "''") q → Prints p (name_of s) q
name-none [] h w = w
name-none (b ∷ bs) h w = absurd (omega arith)

pub name-some : (s : List ℕ) {p q : Printout} → (length s ≡ 0 → ⊥) → Prints p (shown_of s) q → Prints p (name_of s) q
name-some [] h w = absurd (h refl)
name-some (b ∷ bs) h w = w

-- ---- as much of a text as has room

pub began : (l xs : List ℕ) {left m : List ℕ} {j n : ℕ} → length l ≤ top → Wrote l 0 xs left j → m ≡ left → n ≡ min j (length left) → Began l xs m n
began l xs {left} {m} {j} {n} t w e f = rw (e, f) (go (leb (0 + length xs) top) refl w.next)
  where
    go : (b : Bool) → leb (0 + length xs) top ≡ b → j ≡ cond b (0 + length xs) top → Began l xs left (min j (length left))
    go true e n = record { list = w.list; count = omega (arith, wrote-length w); inside = omega arith }
    go false e n = record { list = w.list; count = omega (arith, wrote-length w, leb-false (0 + length xs) top e); inside = omega arith }
