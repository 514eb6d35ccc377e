-- What the writers of events promise each other: events stored into a buffer, a fill as runs, and how many events there are.
use Rattle.std.specs.Prelude.{true, cond, List, [], ◌∷◌, ◌++◌, ◌≡◌, ℕ, zero, suc, ◌+◌, ◌*◌, ◌-◌, ◌≤◌, eqb, length, replicate}
use Rattle.std.proofs.lemmas.List.Edits.{sets}
use Rattle.registers.specs.declared.Registers.{Registers}
use Rattle.registers.specs.Encode.{is_grey, row_for}
use Rattle.registers.specs.Reversed.{ordered}
use Rattle.registers.specs.Record.{blank, allowed_registers}
use Rattle.chip.specs.Plays.{data_message}
use Rattle.drawing.specs.Stream.{first_x, byte_events, page_of}
use Rattle.compiler.specs.declared.line.Counts.{Counts}
use Rattle.compiler.specs.declared.runs.Runs.{Runs}

-- the events es were stored into l from place i on, which left m, and the next place is j
pub record Wrote (l : List ℕ) (i : ℕ) (es : List ℕ) (m : List ℕ) (j : ℕ) : Type 0 where
  pub list : m ≡ sets l i es
  pub next : j ≡ i + length es

-- ---- fills

-- START, address, page return, X and Y, then n times the data event, and STOP
abbrev pub run_events : ℕ → ℕ → ℕ → ℕ → ℕ → List ℕ
run_events pins x y n e = data_message pins (1 ∷ (128 + x) ∷ (64 + y) ∷ []) (replicate n e)

-- k runs, from one to the next dx further in X and dy further in Y
abbrev pub runs_from : ℕ → ℕ → ℕ → ℕ → ℕ → ℕ → ℕ → ℕ → List ℕ
runs_from pins n e dx dy x y zero = []
runs_from pins n e dx dy x y (suc k) = run_events pins x y n e ++ runs_from pins n e dx dy (x + dx) (y + dy) k

abbrev pub runs_events : ℕ → Runs → List ℕ
runs_events pins r = runs_from pins r.bytes r.event r.dx r.dy r.x r.y r.count

abbrev pub by_columns : Registers → ℕ → ℕ → ℕ → ℕ → ℕ → Runs
by_columns r c0 c1 b0 b1 n =
    record {
      count = c1 - c0 + 1;
      bytes = b1 - b0 + 1;
      event = ordered r.data_order n;
      x = first_x r.mx c0 c1;
      y = b0;
      dx = 1;
      dy = 0;
    }

abbrev pub by_banks : Registers → ℕ → ℕ → ℕ → ℕ → ℕ → Runs
by_banks r c0 c1 b0 b1 n =
    record {
      count = b1 - b0 + 1;
      bytes = c1 - c0 + 1;
      event = ordered r.data_order n;
      x = first_x r.mx c0 c1;
      y = b0;
      dx = 0;
      dy = 1;
    }

-- the runs of a fill
unfoldable pub runs_of : Registers → ℕ → ℕ → ℕ → ℕ → ℕ → Runs
runs_of r c0 c1 b0 b1 n = cond (eqb r.v 1) (by_columns r c0 c1 b0 b1 n) (by_banks r c0 c1 b0 b1 n)

-- small enough that no sum is too large for its number
pub record RunsFit (r : Runs) : Type 0 where
  pub count : r.count ≤ 101
  pub bytes : r.bytes ≤ 101
  pub x : r.x ≤ 100
  pub y : r.y ≤ 100
  pub dx : r.dx ≤ 1
  pub dy : r.dy ≤ 1

-- ---- how many events

abbrev pub counts : ℕ → ℕ → Counts
counts n b = record { events = n; bytes = b }

abbrev pub counts_of : List ℕ → Counts
counts_of es = counts (length es) (byte_events es)

-- over the messages of a fill, its display bytes and `each` more to a message
abbrev pub fill_count : ℕ → Registers → ℕ → ℕ → ℕ → ℕ → ℕ
fill_count each r c0 c1 b0 b1 =
    cond (eqb r.v 1) ((c1 - c0 + 1) * (each + (b1 - b0 + 1))) ((b1 - b0 + 1) * (each + (c1 - c0 + 1)))

-- how many commands a set has
abbrev pub set_length : ℕ → ℕ
set_length f = cond (is_grey f) 5 (cond (eqb (page_of (row_for f)) 0) 2 4)

-- ---- tracked registers

-- the registers that a list is compiled from: H, X and Y are blank, and each other is within its width
pub record Tracked (q : Registers) : Type 0 where
  pub is_blank : blank q ≡ q
  pub within : allowed_registers q ≡ true
