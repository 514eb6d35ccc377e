-- Exactly when each refusal of the glass comes (document 01, "Numbers given back", 1, 2 and 5), and what it takes for a pixel to show a level.
use Rattle.std.specs.Prelude.{true, false, List, [], ◌∷◌, Result, Ok, Err, ◌≡◌, ℕ, ◌≤◌, get_or}
use Rattle.registers.specs.declared.Chip.{Chip}
use Rattle.registers.specs.Record.{allowed}
use Rattle.registers.specs.State.{places}
use Rattle.glass.specs.declared.answer.Shown.{Shown}
use Rattle.glass.specs.declared.answer.Shown.TheVariants as shown
use Rattle.glass.specs.Pixel.{Pixel, uses, place_at, pixel_of, held_by}
use Rattle.glass.specs.Glass.{ram_row_of}

-- ---- refusals

-- the glass has 67 rows and 101 columns
pub record OnGlass (row column : ℕ) : Type 0 where
  pub row_there : row ≤ 66
  pub column_there : column ≤ 100

-- the conditions of 0 (no refusal) to 5: 3 and 4 are the bus's, and without a memory there is no 1
abbrev pub place_conditions : Chip → ℕ → ℕ → List (Type 0)
place_conditions c row column =
    ((allowed c ≡ true) × OnGlass row column)
    ∷ ⊥
    ∷ (allowed c ≡ false)
    ∷ ⊥
    ∷ ⊥
    ∷ ((allowed c ≡ true) × (OnGlass row column → ⊥))
    ∷ []

abbrev pub glass_conditions : Chip → ℕ → ℕ → ℕ → List (Type 0)
glass_conditions c memoryLength row column =
    ((memoryLength ≡ places) × (allowed c ≡ true) × OnGlass row column)
    ∷ (memoryLength ≡ places → ⊥)
    ∷ ((memoryLength ≡ places) × (allowed c ≡ false))
    ∷ ⊥
    ∷ ⊥
    ∷ ((memoryLength ≡ places) × (allowed c ≡ true) × (OnGlass row column → ⊥))
    ∷ []

-- what holds where the refusal is k
abbrev pub PlaceWhen : Chip → ℕ → ℕ → ℕ → Type 0
PlaceWhen c row column k = get_or (place_conditions c row column) k ⊥

abbrev pub GlassWhen : Chip → ℕ → ℕ → ℕ → ℕ → Type 0
GlassWhen c memoryLength row column k = get_or (glass_conditions c memoryLength row column) k ⊥

-- ---- what is shown

-- dark, undriven, or a level of at most 64
abbrev pub Told : Shown → Type 0
Told (shown.Level g) = g ≤ 64
Told shown.Dark = Unit {0}
Told shown.Undriven = Unit {0}

-- nothing is refused, and that is shown
abbrev pub Tells : Result Shown ℕ → Type 0
Tells (Ok s) = Told s
Tells (Err n) = ⊥

-- the pixel at a row and column, of the byte that stands there
abbrev pub pixel_on : Chip → List ℕ → ℕ → ℕ → Pixel
pixel_on c memory row column = pixel_of c.registers (ram_row_of c row) (get_or memory (place_at (ram_row_of c row) column) 0)

-- it is lit, and the grey register that it uses holds n
pub record LitBy (c : Chip) (memory : List ℕ) (row column n : ℕ) : Type 0 where
  pub register : ℕ
  pub used : pixel_on c memory row column ≡ uses register
  pub holds : held_by c.registers register ≡ n
