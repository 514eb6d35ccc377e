-- Refusals in their order, for every crate that gives numbers back (document 01, "Numbers given back"); 0 is none.
use Rattle.std.specs.Prelude.{Bool, true, false, not, ◌&&◌, ◌||◌, ℕ, zero, suc, eqb, leb}
use Rattle.registers.specs.declared.Chip.{Chip}
use Rattle.registers.specs.Record.{allowed}
use Rattle.registers.specs.State.{places}

abbrev pub refuse : Bool → ℕ → ℕ
refuse true n = n
refuse false n = 0

infixr 30 ◌then◌
-- the first refusal of two
abbrev pub ◌then◌ : ℕ → ℕ → ℕ
zero then n = n
suc k then n = suc k

-- 1: a lent memory isn't 1,717 long
abbrev pub length_refusal : ℕ → ℕ
length_refusal memoryLength = refuse (not (eqb memoryLength places)) 1

abbrev pub lengths_refusal : ℕ → ℕ → ℕ
lengths_refusal memoryLength writersLength = refuse (not (eqb memoryLength places) || not (eqb writersLength places)) 1

-- 2: register record not allowed
abbrev pub record_refusal : Chip → ℕ
record_refusal c = refuse (not (allowed c)) 2

-- the event numbers of document 01, "Bus events"; any other is 3
abbrev pub is_listed_event : ℕ → Bool
is_listed_event e = leb e 260 || (leb 512 e && leb e 767)
