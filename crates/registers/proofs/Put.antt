-- One register is set: the others stay, and an allowed record stays allowed.
use mathlib.Core.Path.{◌≡◌, sym, ap, ◌∙◌, subst}
use mathlib.Core.Bool.{true}
use mathlib.Core.List.{List}
use Prim.Native.Nat.{ℕ, ◌≤◌, ◌<◌}
use lib.ListN.{get_or, set, length, length-set}
use lib.Seq.{ext_get_or, get_or-set_same, get_or-set_other}
use Rattle.registers.specs.declared.Registers.{Registers}
use Rattle.registers.specs.Record.{within, values, of_values, limits, put, allowed_registers}
use Rattle.registers.proofs.Tables.{tabulated, tabulated-at, tabulated-length}
use Rattle.registers.proofs.Within.{within-set}

-- a list is its own elements
tabulated-self : (l : List ℕ) (n : ℕ) → length l ≡ n → tabulated (λ (i : ℕ). get_or l i 0) 0 n ≡ l
tabulated-self l n e =
    ext_get_or 0 (tabulated (λ (i : ℕ). get_or l i 0) 0 n) l (tabulated-length (λ (i : ℕ). get_or l i 0) 0 n ∙ sym e)
    (λ i h. tabulated-at (λ (i : ℕ). get_or l i 0) n i (subst (λ (m : ℕ). i < m) (tabulated-length (λ (i : ℕ). get_or l i 0) 0 n) h))

pub values-ofValues : (l : List ℕ) → length l ≡ 29 → values (of_values l) ≡ l
values-ofValues l e = tabulated-self l 29 e

pub values-put : (f n : ℕ) (r : Registers) → values (put f n r) ≡ set (values r) f n
values-put f n r = values-ofValues (set (values r) f n) (length-set (values r) f n)

pub put_other : (f n : ℕ) (r : Registers) (g : ℕ) → (g ≡ f → ⊥) → get_or (values (put f n r)) g 0 ≡ get_or (values r) g 0
put_other f n r g d = ap (λ (l : List ℕ). get_or l g 0) (values-put f n r) ∙ get_or-set_other (values r) f g n 0 d

pub put_same : (f n : ℕ) (r : Registers) → f < 29 → get_or (values (put f n r)) f 0 ≡ n
put_same f n r h = ap (λ (l : List ℕ). get_or l f 0) (values-put f n r) ∙ get_or-set_same (values r) f n 0 h

pub put-allowed : (f n : ℕ) (r : Registers) → n ≤ get_or limits f 0 → allowed_registers r ≡ true → allowed_registers (put f n r) ≡ true
put-allowed f n r b h = subst (λ (l : List ℕ). within true l limits ≡ true) (sym (values-put f n r)) (within-set true (values r) limits h f n b)
