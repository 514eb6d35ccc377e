-- The chip's record of document 01: the registers in their order, widths, limits and reset values; what an allowed record is.
use Rattle.std.specs.Prelude.{Bool, true, false, ◌&&◌, List, [], ◌∷◌, map, ℕ, ◌-◌, ◌^◌, leb, get_or, set}
use Prim.Native.String.{String}
use Rattle.text.specs.Text.{bytes}
use Rattle.registers.specs.declared.Registers.{Registers}
use Rattle.registers.specs.declared.Chip.{Chip}
use Rattle.registers.specs.declared.PixelCounts.{PixelCounts}
use Rattle.registers.specs.declared.Phase.{Phase}
use Rattle.registers.specs.declared.Phase.TheVariants.{Idle, AddressAwaited, Ignoring, ControlAwaited, OneByte, EndlessBytes, Reading, ReadEnded}

-- a register of the bit table: its name, how many bits it has, the largest value that it takes, and its value after a reset
pub record Register : Type 0 where
  pub name : List ℕ
  pub width : ℕ
  pub limit : ℕ
  pub reset : ℕ

-- a register that takes every value of its width
abbrev pub bits : String → ℕ → ℕ → Register
bits n w v = record { name = bytes n; width = w; limit = 2 ^ w - 1; reset = v }

-- one whose range is smaller than its width: H up to 4, X up to 100, Y up to 16
abbrev pub up_to : String → ℕ → ℕ → Register
up_to n w l = record { name = bytes n; width = w; limit = l; reset = 0 }

-- the bit table, in document 01's order
abbrev pub registers : List Register
registers =
    up_to "h" 3 4
    ∷ bits "do" 1 0 ∷ bits "pd" 1 1 ∷ bits "v" 1 0 ∷ bits "d" 1 0 ∷ bits "e" 1 0 ∷ bits "mx" 1 0 ∷ bits "my" 1 0 ∷ bits "ps" 1 0
    ∷ up_to "x" 7 100 ∷ up_to "y" 5 16
    ∷ bits "bs" 3 0 ∷ bits "bsh" 1 0 ∷ bits "dp" 3 0 ∷ bits "prs" 1 0 ∷ bits "hve" 1 0
    ∷ bits "s" 3 0 ∷ bits "tc" 3 0 ∷ bits "sm" 1 0 ∷ bits "vop" 7 0
    ∷ bits "gr" 2 0 ∷ bits "gs0" 6 0 ∷ bits "gs1" 6 0 ∷ bits "gs2" 6 0 ∷ bits "gs3" 6 0
    ∷ bits "dof" 1 1 ∷ bits "dm" 1 0 ∷ bits "ec" 1 0 ∷ bits "oc" 1 0 ∷ []

abbrev pub names : List (List ℕ)
names = map (λ (r : Register). r.name) registers

abbrev pub limits : List ℕ
limits = map (λ (r : Register). r.limit) registers

abbrev pub resets : List ℕ
resets = map (λ (r : Register). r.reset) registers

-- the record's registers as a list in that order, and back
abbrev pub values : Registers → List ℕ
values r =
    r.h ∷ r.data_order ∷ r.pd ∷ r.v ∷ r.d ∷ r.e ∷ r.mx ∷ r.my ∷ r.ps ∷ r.x ∷ r.y
    ∷ r.bs ∷ r.bsh ∷ r.dp ∷ r.prs ∷ r.hve ∷ r.s ∷ r.tc ∷ r.sm ∷ r.vop ∷ r.gr
    ∷ r.gs0 ∷ r.gs1 ∷ r.gs2 ∷ r.gs3 ∷ r.dof ∷ r.dm ∷ r.ec ∷ r.oc ∷ []

abbrev pub of_values : List ℕ → Registers
of_values l =
    record {
      h = get_or l 0 0;
      data_order = get_or l 1 0;
      pd = get_or l 2 0;
      v = get_or l 3 0;
      d = get_or l 4 0;
      e = get_or l 5 0;
      mx = get_or l 6 0;
      my = get_or l 7 0;
      ps = get_or l 8 0;
      x = get_or l 9 0;
      y = get_or l 10 0;
      bs = get_or l 11 0;
      bsh = get_or l 12 0;
      dp = get_or l 13 0;
      prs = get_or l 14 0;
      hve = get_or l 15 0;
      s = get_or l 16 0;
      tc = get_or l 17 0;
      sm = get_or l 18 0;
      vop = get_or l 19 0;
      gr = get_or l 20 0;
      gs0 = get_or l 21 0;
      gs1 = get_or l 22 0;
      gs2 = get_or l 23 0;
      gs3 = get_or l 24 0;
      dof = get_or l 25 0;
      dm = get_or l 26 0;
      ec = get_or l 27 0;
      oc = get_or l 28 0;
    }

-- register f, by its place in the order, becomes n
abbrev pub put : ℕ → ℕ → Registers → Registers
put f n r = of_values (set (values r) f n)

-- the registers but H, X and Y, which are blanked: what a drawing list can say something of
abbrev pub blank : Registers → Registers
blank r = put 0 0 (put 9 0 (put 10 0 r))

abbrev pub reset_registers : Registers
reset_registers = of_values resets

-- the RS of the byte or bytes awaited; a phase that awaits none has 0
abbrev pub phase_rs : Phase → Bool
phase_rs Idle = false
phase_rs AddressAwaited = false
phase_rs Ignoring = false
phase_rs ControlAwaited = false
phase_rs (OneByte rs) = rs
phase_rs (EndlessBytes rs) = rs
phase_rs Reading = false
phase_rs ReadEnded = false

-- ---- how many pixels have each value (document 02, W8)

-- the glass has 67 rows of 101
abbrev pub pixels : ℕ
pixels = 6767

-- the counts of the values 0 to 3 in this order, and that of one value
abbrev pub counts : PixelCounts → List ℕ
counts n = n.zeros ∷ n.ones ∷ n.twos ∷ n.threes ∷ []

abbrev pub count_for : PixelCounts → ℕ → ℕ
count_for n v = get_or (counts n) v 0

-- what f gives for each value
abbrev pub by_value : (ℕ → ℕ) → PixelCounts
by_value f = record { zeros = f 0; ones = f 1; twos = f 2; threes = f 3 }

-- where every byte of the memory is 0
abbrev pub cleared : PixelCounts
cleared = record { zeros = pixels; ones = 0; twos = 0; threes = 0 }

-- ---- the whole record

-- after a power-on reset, for a memory that is cleared
abbrev pub reset_chip : ℕ → Chip
reset_chip pins =
    record { registers = reset_registers; pins = pins; status = 0; last_rs = false; phase = Idle; pixels = cleared }

-- ---- the same record but for one thing: every change of a chip is made of these

abbrev pub with_registers : Chip → Registers → Chip
with_registers c r =
    record { registers = r; pins = c.pins; status = c.status; last_rs = c.last_rs; phase = c.phase; pixels = c.pixels }

abbrev pub with_status : Chip → ℕ → Chip
with_status c n =
    record { registers = c.registers; pins = c.pins; status = n; last_rs = c.last_rs; phase = c.phase; pixels = c.pixels }

abbrev pub with_last_rs : Chip → Bool → Chip
with_last_rs c rs =
    record { registers = c.registers; pins = c.pins; status = c.status; last_rs = rs; phase = c.phase; pixels = c.pixels }

abbrev pub in_phase : Chip → Phase → Chip
in_phase c p =
    record { registers = c.registers; pins = c.pins; status = c.status; last_rs = c.last_rs; phase = p; pixels = c.pixels }

abbrev pub with_pixels : Chip → PixelCounts → Chip
with_pixels c n =
    record { registers = c.registers; pins = c.pins; status = c.status; last_rs = c.last_rs; phase = c.phase; pixels = n }

-- ---- what is allowed

-- t, and each number within its limit
abbrev pub within : Bool → List ℕ → List ℕ → Bool
within t [] ls = t
within t (n ∷ ns) [] = false
within t (n ∷ ns) (l ∷ ls) = within (t && leb n l) ns ls

abbrev pub allowed_registers : Registers → Bool
allowed_registers r = within true (values r) limits

-- no count is above that of all pixels
abbrev pub count_limits : List ℕ
count_limits = pixels ∷ pixels ∷ pixels ∷ pixels ∷ []

abbrev pub allowed_counts : PixelCounts → Bool
allowed_counts n = within true (counts n) count_limits

-- document 01, "Allowed", and document 02, W8
unfoldable pub allowed : Chip → Bool
allowed c = allowed_registers c.registers && leb c.pins 3 && allowed_counts c.pixels
