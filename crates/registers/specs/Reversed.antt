-- The swapped bit order of DO = 1, from the bits' positions: bit k goes to bit 7 − k.
use Rattle.std.specs.Prelude.{cond, List, ◌≡◌, ℕ, zero, suc, ◌+◌, ◌*◌, ◌/◌, ◌%◌, ◌-◌, ◌^◌, ◌<◌, eqb, get_or}

-- the lowest n bits of b, bit k at 7 − k
abbrev pub reversed_bits : ℕ → ℕ → ℕ
reversed_bits zero b = 0
reversed_bits (suc k) b = (b / 2 ^ k % 2) * 2 ^ (7 - k) + reversed_bits k b

abbrev pub reversed_of : ℕ → ℕ
reversed_of b = reversed_bits 8 b

-- a byte in the order that DO asks for; in the same order twice it is itself again
abbrev pub ordered : ℕ → ℕ → ℕ
ordered dataOrder b = cond (eqb dataOrder 1) (reversed_of b) b

-- a table of all bytes in the other order
pub record Reversing (table : List ℕ) : Type 0 where
  pub entry : (b : ℕ) → b < 256 → get_or table b 0 ≡ reversed_of b
