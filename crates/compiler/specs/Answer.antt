-- What `compile` and its first pass give, in document 01's numbers.
use Rattle.std.specs.Prelude.{ℕ, Result, Ok, Err}
use Rattle.refusals.specs.Numbers.{number}
use Rattle.compiler.specs.declared.answer.Compiled as compiled
use Rattle.compiler.specs.declared.answer.CompileError.{CompileError}
use Rattle.compiler.specs.declared.answer.CompileError.TheVariants as errors
use Rattle.compiler.specs.declared.measure.Measured as measured
use Rattle.compiler.specs.declared.answer.Fault as faults

pub data Compiled : Type 0 where
  Done : (length clocks : ℕ) → Compiled
  Refused : (number : ℕ) → Compiled
  BadLine : (number line : ℕ) → Compiled
  Short : (needed : ℕ) → Compiled

-- what the code says of it
abbrev pub told : Result compiled.Compiled CompileError → Compiled
told (Ok c) = Done c.length c.clocks
told (Err (errors.Refused r)) = Refused (number r)
told (Err (errors.BadLine r i)) = BadLine (number r) i
told (Err (errors.Short n)) = Short n

-- the first fault, or how many events and byte events there are
pub data Measured : Type 0 where
  Fault : (number line : ℕ) → Measured
  Whole : (length bytes : ℕ) → Measured

abbrev pub told_measured : Result measured.Measured faults.Fault → Measured
told_measured (Ok m) = Whole m.length m.bytes
told_measured (Err f) = Fault (number f.refusal) f.line
