-- Text printed into a buffer that is lent with the place where the next byte goes.
use Rattle.std.specs.Prelude.{List, ◌≡◌, ℕ, ◌≤◌, Result, Ok, Err, length}
use Rattle.refusals.specs.Numbers.{number}
use Rattle.std.specs.Borrow.{MutBor}
use Rattle.print.specs.Printed.{top, Wrote, Written}
use Rattle.print.specs.declared.Printout.{Printout}
use Rattle.print.specs.Printed as written
use Rattle.print.specs.declared.Unprinted.{Unprinted}
use Rattle.print.specs.declared.Unprinted.TheVariants.{Short, Refused}

-- the text xs was printed from p on, into a buffer whose length a machine word holds, which left q, of the same buffer
pub record Prints (p : Printout) (xs : List ℕ) (q : Printout) : Type 0 where
  pub sized : length p.out.now ≤ top
  pub buffer : q.out.ghost_name ≡ p.out.ghost_name
  pub wrote : p.at ≤ top → Wrote p.out.now p.at xs q.out.now q.at

-- how the printing of a whole text ended, its refusal by number
abbrev pub written_of : Result ℕ Unprinted → Written
written_of (Ok n) = written.Text n
written_of (Err (Short n)) = written.Short n
written_of (Err (Refused r)) = written.Refused (number r)

-- a closure that may leave q where it is called with p prints the text xs
abbrev pub AlwaysPrints : (MutBor Printout → Unit {0} → MutBor Printout → Type 0) → List ℕ → Type 0
AlwaysPrints gives xs = (p q : MutBor Printout) → gives p tt q → Prints p.now xs q.now
