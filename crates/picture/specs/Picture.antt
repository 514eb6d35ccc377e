-- The glass as a portable pixmap (PPM, text form P3): a header, then one pixel a line, row 0 first and in a row column 0 first.
use Rattle.std.specs.Prelude.{List, [], ◌∷◌, ◌++◌, Result, Ok, Err, ℕ, ◌*◌, ◌/◌, ◌%◌, ◌-◌, length}
use Rattle.registers.specs.declared.Chip.{Chip}
use Rattle.registers.specs.Refusals.{◌then◌, length_refusal, record_refusal}
use Rattle.glass.specs.declared.answer.Shown.{Shown}
use Rattle.glass.specs.declared.answer.Shown.TheVariants as shown
use Rattle.glass.specs.Glass.{glass_of}
use Rattle.text.specs.Text.{bytes, join}
use Rattle.print.specs.Printed.{Written, decimal_of, parts_from, Output, whole_text, written_number}
use Rattle.picture.specs.declared.Colour.{Colour}

-- ---- colours

abbrev pub rgb : ℕ → ℕ → ℕ → Colour
rgb r g b = record { red = r; green = g; blue = b }

-- level 0 is white, each further level a 64th darker, so that level 64 is black
abbrev pub grey : ℕ → ℕ
grey level = 255 * (64 - level) / 64

-- on a picture that is not refused no pixel is, so that the last colour is never seen
abbrev pub colour_of : Result Shown ℕ → Colour
colour_of (Ok (shown.Level g)) = rgb (grey g) (grey g) (grey g)
colour_of (Ok shown.Dark) = rgb 0 0 96
colour_of (Ok shown.Undriven) = rgb 96 64 0
colour_of (Err n) = rgb 0 0 0

-- ---- the text

-- three numbers with one blank between any two
abbrev pub pixel_text : Colour → List ℕ
pixel_text c = join 32 (decimal_of c.red ∷ decimal_of c.green ∷ decimal_of c.blue ∷ []) ++ (10 ∷ [])

abbrev pub header : List ℕ
header = bytes "P3\n101 67\n255\n"

-- pixel k of 67 rows of 101
abbrev pub pixel_at : Chip → List ℕ → ℕ → List ℕ
pixel_at c memory k = pixel_text (colour_of (glass_of c memory (k / 101) (k % 101)))

abbrev pub pixel_count : ℕ
pixel_count = 67 * 101

unfoldable pub pixmap_of : Chip → List ℕ → List ℕ
pixmap_of c memory = header ++ parts_from (pixel_at c memory) 0 pixel_count

-- ---- the call

-- 1: a memory isn't 1,717 long; 2: register record not allowed
unfoldable pub pixmap_refusal : Chip → ℕ → ℕ
pixmap_refusal c memoryLength = length_refusal memoryLength then record_refusal c

-- document 01's number for the answer: 10 is an output shorter than needed
abbrev pub pixmap_number : Written → ℕ
pixmap_number = written_number 10

-- the answer, and the buffer
abbrev pub pixmap_call : Chip → List ℕ → List ℕ → Output
pixmap_call c memory out = whole_text (pixmap_refusal c (length memory)) (pixmap_of c memory) out
