-- What no search may give, at chosen bytes. Each is computed: a definition that gave it would not have passed here.
use mathlib.Core.Path.{◌≡◌}
use native.Mathlib.Omega.{arith}
use Rattle.registers.specs.Table.{row_at}
use Rattle.row_search.specs.declared.Page.TheVariants.{Function, Display, Grey, Special}
use Rattle.row_search.specs.Search.{search_of}

-- ---- the order

-- page return is not looked at last, nor after NOP as it stands in the sheet
pub return-last : (search_of Special 0b0000_0001).looked ≡ 5 → ⊥
unfolding search_of
return-last e = omega arith

pub return-after-nop : (search_of Function 0b0000_0001).looked ≡ 2 → ⊥
unfolding search_of
return-after-nop e = omega arith

pub nop-first : (search_of Function 0b0000_0000).looked ≡ 2 → ⊥
unfolding search_of
nop-first e = omega arith

pub y-before-x : (search_of Function 0b0100_0101).looked ≡ 2 → ⊥
unfolding search_of
y-before-x e = omega arith

-- ---- the count

-- X 5 is found at the second row
pub one-short : (search_of Function 0b1000_0101).looked ≡ 1 → ⊥
unfolding search_of
one-short e = omega arith

-- the search does not go on after a match, through the page or through the table
pub on-through-the-page : (search_of Function 0b1000_0101).looked ≡ 6 → ⊥
unfolding search_of
on-through-the-page e = omega arith

pub on-through-the-table : (search_of Function 0b1000_0101).looked ≡ 21 → ⊥
unfolding search_of
on-through-the-table e = omega arith

-- X 101 is found by its place like any other X
pub out-of-range-nowhere : (search_of Function 0b1110_0101).looked ≡ 6 → ⊥
unfolding search_of
out-of-range-nowhere e = omega arith

-- row block swapping is looked at before NOP
pub swap-left-out : (search_of Special 0b0000_0000).looked ≡ 4 → ⊥
unfolding search_of
swap-left-out e = omega arith

-- where no row takes the byte, NOP was looked at too
pub nop-not-counted : (search_of Grey 0b0000_0100).looked ≡ 3 → ⊥
unfolding search_of
nop-not-counted e = omega arith

-- ---- the row

-- the same byte is of row 18 in page 4, and the first row of the table that takes it is row 6 of page 1
pub row-of-another-page : (search_of Grey 0b0000_0100).row ≡ 18 → ⊥
unfolding search_of row_at
row-of-another-page e = omega arith

pub page-not-asked : (search_of Grey 0b0000_0100).row ≡ 6 → ⊥
unfolding search_of row_at
page-not-asked e = omega arith

-- the row is given by its number, and not by its place in the order
pub place-for-row : (search_of Display 0b0000_0101).row ≡ 1 → ⊥
unfolding search_of row_at
place-for-row e = omega arith

-- row block swapping is a known row
pub swap-unknown : (search_of Special 0b0101_1000).row ≡ 21 → ⊥
unfolding search_of row_at
swap-unknown e = omega arith

-- ---- where H is no page, and where it is

-- row 18 takes this byte in page 4, and in page 5 none does
pub page-4-as-none : row_at 4 0b0000_0100 ≡ 21 → ⊥
unfolding row_at
page-4-as-none e = omega arith

pub page-5-as-4 : row_at 5 0b0000_0100 ≡ 18 → ⊥
unfolding row_at
page-5-as-4 e = omega arith

-- page return stands there too
pub no-return-past-4 : row_at 5 0b0000_0001 ≡ 21 → ⊥
unfolding row_at
no-return-past-4 e = omega arith
