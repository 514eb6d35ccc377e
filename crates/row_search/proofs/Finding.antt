-- The search by the code's flat lists is the definition's: computed for each page and every byte.
use mathlib.Core.Path.{◌≡◌, sym, ap₂, ◌∙◌}
use mathlib.Core.Bool.{Bool, ◌&&◌}
use mathlib.Core.List.{[], ◌∷◌}
use Prim.Native.Nat.{ℕ, ◌<◌}
use native.Mathlib.Omega.{arith}
use borrow.Author.Tests.{ne_eqb}
use lib.Dec.{T, eqb, eqb→eq}
use Rattle.registers.specs.Table.{row_at}
use Rattle.registers.proofs.Below.{all_below, below_at, and_left, and_right, or-true}
use Rattle.row_search.specs.declared.Found.{Found}
use Rattle.row_search.specs.declared.Page.{Page}
use Rattle.row_search.specs.declared.Page.TheVariants.{Function, Display, Generator, Grey, Special}
use Rattle.row_search.specs.Search.{found, search_of, order, found_among}

-- ---- a page's rows

abbrev pub same_found : Found → Found → Bool
same_found f g = eqb f.row g.row && eqb f.looked g.looked

pub same-found : (f g : Found) → T (same_found f g) → f ≡ g
same-found f g t =
    ap₂ (λ (r n : ℕ). found r n)
    (eqb→eq f.row g.row (and_left (eqb f.row g.row) (eqb f.looked g.looked) t))
    (eqb→eq f.looked g.looked (and_right (eqb f.row g.row) (eqb f.looked g.looked) t))

abbrev agrees : Page → ℕ → Bool
agrees p b = same_found (found_among (order p) b) (search_of p b)

all-agree : (p : Page) → T (all_below 256 (agrees p))
unfolding search_of row_at
all-agree Function = tt
all-agree Display = tt
all-agree Generator = tt
all-agree Grey = tt
all-agree Special = tt

pub found_in : (p : Page) (b : ℕ) → b < 256 → found_among (order p) b ≡ search_of p b
found_in p b l = same-found (found_among (order p) b) (search_of p b) (below_at 256 (agrees p) (all-agree p) b l)

-- ---- where H is no page: only the rows of every page are there, whatever it holds

past-pages : (h b : ℕ) → 4 < h → row_at h b ≡ row_at 5 b
unfolding row_at
past-pages h b l =
    rw (
      ne_eqb 0 h (λ e. omega arith),
      ne_eqb 1 h (λ e. omega arith),
      ne_eqb 2 h (λ e. omega arith),
      ne_eqb 3 h (λ e. omega arith),
      ne_eqb 4 h (λ e. omega arith),
      or-true (eqb 8 h),
    )

abbrev agrees_past : ℕ → Bool
agrees_past b = eqb (found_among (1 ∷ 0 ∷ []) b).row (row_at 5 b)

all-agree-past : T (all_below 256 agrees_past)
unfolding row_at
all-agree-past = tt

pub found-past : (h b : ℕ) → 4 < h → b < 256 → (found_among (1 ∷ 0 ∷ []) b).row ≡ row_at h b
found-past h b l byte =
    eqb→eq (found_among (1 ∷ 0 ∷ []) b).row (row_at 5 b) (below_at 256 agrees_past all-agree-past b byte) ∙ sym (past-pages h b l)
