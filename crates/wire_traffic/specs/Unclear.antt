-- How many samples are unclear, by the samples alone.
use Rattle.std.specs.Prelude.{cond, List, [], ◌∷◌, ℕ, ◌+◌, leb}
use Rattle.wire_samples.specs.Signal.{both_change}

-- those where both lines changed; the first is held against the sample before
unfoldable pub how_many_unclear : ℕ → List ℕ → ℕ
how_many_unclear before [] = 0
how_many_unclear before (s ∷ ss) = cond (both_change before s) 1 0 + how_many_unclear s ss

-- the largest number of 64 bits
abbrev pub most : ℕ
most = 18446744073709551615

abbrev pub at_most : ℕ → ℕ
at_most n = cond (leb n most) n most
