-- Exactly when each refusal of a row's pulses comes (document 01, "Numbers given back", 1, 2 and 5; document 02, W4, 11); and what it is to be lit.
use Rattle.std.specs.Prelude.{true, false, List, [], ◌∷◌, Result, Ok, ◌≡◌, ℕ, ◌≤◌, ◌<◌, get_or}
use Rattle.registers.specs.declared.Chip.{Chip}
use Rattle.registers.specs.Record.{allowed}
use Rattle.registers.specs.State.{places}
use Rattle.glass.specs.declared.answer.Shown.{Shown}
use Rattle.glass.specs.declared.answer.Shown.TheVariants as shown
use Rattle.pulses.specs.Row.{row_length}

-- the conditions of 0 (no refusal) to 11; the numbers between are those of other calls
abbrev pub row_conditions : Chip → ℕ → ℕ → ℕ → List (Type 0)
row_conditions c memoryLength row outLength =
    ((memoryLength ≡ places) × (allowed c ≡ true) × (row ≤ 66) × (outLength ≡ row_length))
    ∷ (memoryLength ≡ places → ⊥)
    ∷ ((memoryLength ≡ places) × (allowed c ≡ false))
    ∷ ⊥
    ∷ ⊥
    ∷ ((memoryLength ≡ places) × (allowed c ≡ true) × (66 < row))
    ∷ ⊥
    ∷ ⊥
    ∷ ⊥
    ∷ ⊥
    ∷ ⊥
    ∷ ((memoryLength ≡ places) × (allowed c ≡ true) × (row ≤ 66) × (outLength ≡ row_length → ⊥))
    ∷ []

-- what holds where the refusal is k
abbrev pub RowWhen : Chip → ℕ → ℕ → ℕ → ℕ → Type 0
RowWhen c memoryLength row outLength k = get_or (row_conditions c memoryLength row outLength) k ⊥

-- a level is shown
pub record IsLit (s : Result Shown ℕ) : Type 0 where
  pub level : ℕ
  pub shows : s ≡ Ok (shown.Level level)
