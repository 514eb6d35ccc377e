use native.Mathlib.Omega.{arith}
use Prim.Native.Nat.{◌^◌}
use Rattle.registers.specs.Record.{values}
use borrow.Author.Rules.{rules}
use Rattle.print.proofs.WholeTexts.{refused-text, unrefused-text}
use Rattle.differences.specs.Differences.{compared}
use Rattle.differences.proofs.CodeWays.{AllBelow, below-at, text-of-values}
use Rattle.differences.proofs.Lines.{differences-bound}
use Rattle.differences.proofs.differences.Goals as goal

pub returns-in_err-refusal : goal.returns-in_err-refusal
returns-in_err-refusal c = refused-text _ _ _ _ c.from_residual.ensures.1 c.in_err-refusal.ensures

pub returns : goal.returns
returns c =
    let args = c.args in
    let low : AllBelow (2 ^ 8) (values args.first) = (omega (arith, c.well_formed.0), (omega (arith, c.well_formed.0), (omega (arith, c.well_formed.0), (omega (arith, c.well_formed.0), (omega (arith, c.well_formed.0), (omega (arith, c.well_formed.0), (omega (arith, c.well_formed.0), (omega (arith, c.well_formed.0), (omega (arith, c.well_formed.0), (omega (arith, c.well_formed.0), (omega (arith, c.well_formed.0), (omega (arith, c.well_formed.0), (omega (arith, c.well_formed.0), (omega (arith, c.well_formed.0), (omega (arith, c.well_formed.0), (omega (arith, c.well_formed.0), (omega (arith, c.well_formed.0), (omega (arith, c.well_formed.0), (omega (arith, c.well_formed.0), (omega (arith, c.well_formed.0), (omega (arith, c.well_formed.0), (omega (arith, c.well_formed.0), (omega (arith, c.well_formed.0), (omega (arith, c.well_formed.0), (omega (arith, c.well_formed.0), (omega (arith, c.well_formed.0), (omega (arith, c.well_formed.0), (omega (arith, c.well_formed.0), (omega (arith, c.well_formed.0), tt))))))))))))))))))))))))))))) in
    let low' : AllBelow (2 ^ 8) (values args.second) = (omega (arith, c.well_formed.1.1.1.0), (omega (arith, c.well_formed.1.1.1.0), (omega (arith, c.well_formed.1.1.1.0), (omega (arith, c.well_formed.1.1.1.0), (omega (arith, c.well_formed.1.1.1.0), (omega (arith, c.well_formed.1.1.1.0), (omega (arith, c.well_formed.1.1.1.0), (omega (arith, c.well_formed.1.1.1.0), (omega (arith, c.well_formed.1.1.1.0), (omega (arith, c.well_formed.1.1.1.0), (omega (arith, c.well_formed.1.1.1.0), (omega (arith, c.well_formed.1.1.1.0), (omega (arith, c.well_formed.1.1.1.0), (omega (arith, c.well_formed.1.1.1.0), (omega (arith, c.well_formed.1.1.1.0), (omega (arith, c.well_formed.1.1.1.0), (omega (arith, c.well_formed.1.1.1.0), (omega (arith, c.well_formed.1.1.1.0), (omega (arith, c.well_formed.1.1.1.0), (omega (arith, c.well_formed.1.1.1.0), (omega (arith, c.well_formed.1.1.1.0), (omega (arith, c.well_formed.1.1.1.0), (omega (arith, c.well_formed.1.1.1.0), (omega (arith, c.well_formed.1.1.1.0), (omega (arith, c.well_formed.1.1.1.0), (omega (arith, c.well_formed.1.1.1.0), (omega (arith, c.well_formed.1.1.1.0), (omega (arith, c.well_formed.1.1.1.0), (omega (arith, c.well_formed.1.1.1.0), tt))))))))))))))))))))))))))))) in
    let bound = differences-bound (compared c.bytes-first_registers.result args.first_memory.now args.first_writers.now)
    (compared c.bytes-second_registers.result args.second_memory.now args.second_writers.now)
    (record { bytes = λ k. search rules; numbers = λ k. search rules })
    (record { bytes = λ k. search rules; numbers = λ k. search rules }) (λ k. rw c.bytes-first_registers.ensures (below-at (2 ^ 8) (values args.first) (omega arith) low k))
    (λ k. rw c.bytes-second_registers.ensures (below-at (2 ^ 8) (values args.second) (omega arith) low' k)) in
    unrefused-text _ _ c.in_ok-refusal.ensures
    (text-of-values args.first args.second _ _ _ _ _ c.bytes-first_registers.ensures c.bytes-second_registers.ensures
    (c.whole.ensures _ (omega (arith, bound)) (λ p q post. search rules)))
