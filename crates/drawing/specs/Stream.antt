-- The bus events of a drawing list (document 01, "Stream"), from the registers tracked along the list and the pins.
use Rattle.std.specs.Prelude.{cond, List, [], ◌∷◌, ◌++◌, ℕ, zero, suc, ◌+◌, ◌*◌, ◌-◌, eqb, ltb, get_or, replicate}
use Rattle.registers.specs.declared.Registers.{Registers}
use Rattle.registers.specs.Encode.{is_grey, row_for, row_byte}
use Rattle.registers.specs.Places.{GR}
use Rattle.registers.specs.Reversed.{ordered}
use Rattle.registers.specs.Table.{rows, no_row}
use Rattle.chip.specs.Plays.{message, data_message}
use Rattle.lists.specs.declared.Line.{Line}
use Rattle.lists.specs.declared.Line.TheVariants.{Fill, Set}
use Rattle.drawing.specs.Plain.{set_to, registers_after}

-- ---- fills

-- START, address, page return, X and Y, then n data bytes, swapped where DO = 1, and STOP
abbrev pub run : ℕ → Registers → ℕ → ℕ → ℕ → ℕ → List ℕ
run pins r x y n b = data_message pins (1 ∷ (128 + x) ∷ (64 + y) ∷ []) (replicate n (ordered r.data_order b))

-- V = 0: one run for each of k banks, rising from y
abbrev pub across : ℕ → Registers → ℕ → ℕ → ℕ → ℕ → ℕ → List ℕ
across pins r x n b y zero = []
across pins r x n b y (suc k) = run pins r x y n b ++ across pins r x n b (y + 1) k

-- V = 1: one run for each of k columns, rising from X x
abbrev pub down : ℕ → Registers → ℕ → ℕ → ℕ → ℕ → ℕ → List ℕ
down pins r y n b x zero = []
down pins r y n b x (suc k) = run pins r x y n b ++ down pins r y n b (x + 1) k

-- the smallest X: with MX = 1 that of the last column
abbrev pub first_x : ℕ → ℕ → ℕ → ℕ
first_x mx c0 c1 = cond (eqb mx 1) (100 - c1) c0

abbrev pub fill : ℕ → Registers → ℕ → ℕ → ℕ → ℕ → ℕ → List ℕ
fill pins r c0 c1 b0 b1 n =
    cond (eqb r.v 1)
    (down pins r b0 (b1 - b0 + 1) n (first_x r.mx c0 c1) (c1 - c0 + 1))
    (across pins r (first_x r.mx c0 c1) (c1 - c0 + 1) n b0 (b1 - b0 + 1))

-- ---- sets

abbrev pub page_of : ℕ → ℕ
page_of i = (get_or rows i no_row).page

-- the page command unless page 0
abbrev pub enter : ℕ → List ℕ
enter q = cond (eqb q 0) [] ((8 + q) ∷ [])

-- page return unless page 0
abbrev pub leave : ℕ → List ℕ
leave p = cond (eqb p 0) [] (1 ∷ [])

-- between a row of page p and one of page q, where they differ: page return, then the page command unless page 0
abbrev pub change : ℕ → ℕ → List ℕ
change p q = cond (eqb p q) [] (1 ∷ enter q)

-- the rows behind one of page p, and back to page 0
abbrev pub more_rows : ℕ → List ℕ → Registers → List ℕ
more_rows p [] t = leave p
more_rows p (i ∷ rest) t = change p (page_of i) ++ row_byte (get_or rows i no_row) t ∷ more_rows (page_of i) rest t

-- the rows in order from page 0, each in its page
abbrev pub row_bytes : List ℕ → Registers → List ℕ
row_bytes [] t = []
row_bytes (i ∷ rest) t = enter (page_of i) ++ row_byte (get_or rows i no_row) t ∷ more_rows (page_of i) rest t

-- a grey register is selected first
abbrev pub rows_for : ℕ → List ℕ
rows_for f = cond (is_grey f) (row_for GR ∷ row_for f ∷ []) (row_for f ∷ [])

-- t is what the registers are to be
abbrev pub set_commands : ℕ → Registers → List ℕ
set_commands f t = 1 ∷ row_bytes (rows_for f) t

-- ---- the list

unfoldable pub line_events : ℕ → Line → Registers → List ℕ
line_events pins (Fill c0 c1 b0 b1 n) r = fill pins r c0 c1 b0 b1 n
line_events pins (Set f n) r = message pins (set_commands f (set_to f n r))

unfoldable pub stream : ℕ → List Line → Registers → List ℕ
stream pins [] r = []
stream pins (l ∷ ls) r = line_events pins l r ++ stream pins ls (registers_after l r)

-- ---- clocks: nine for each byte event
abbrev pub byte_events : List ℕ → ℕ
byte_events [] = 0
byte_events (e ∷ es) = cond (ltb e 256) 1 0 + byte_events es

abbrev pub clocks_of : List ℕ → ℕ
clocks_of es = 9 * byte_events es
