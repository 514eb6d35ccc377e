use Rattle.capture_lines.proofs.WholeLines.{first_range, second_range, event-range, digits-read}
use native.Mathlib.Omega.{arith}
use Rattle.capture_lines.proofs.event.of_digits.Goals as goal

pub overflow_sub-two : goal.overflow_sub-two
overflow_sub-two c = omega (arith, first_range _ _ _ c.requires, second_range _ _ _ c.requires)

pub overflow_sub-result : goal.overflow_sub-result
overflow_sub-result c = omega (arith, first_range _ _ _ c.requires, second_range _ _ _ c.requires)

pub overflow_mul-result-2 : goal.overflow_mul-result-2
overflow_mul-result-2 c =
    rw (c.from-third.ensures, c.from.ensures, c.from-2.ensures, c.from-3.ensures) (record { fits = omega (arith, event-range _ _ _ c.requires) })

pub overflow_add-result-2 : goal.overflow_add-result-2
overflow_add-result-2 c =
    rw (c.from-third.ensures, c.from.ensures, c.from-2.ensures, c.from-3.ensures) (record { fits = omega (arith, event-range _ _ _ c.requires) })

pub overflow_cast-result : goal.overflow_cast-result
overflow_cast-result c =
    rw (c.from-third.ensures, c.from.ensures, c.from-2.ensures, c.from-3.ensures) (omega (arith, event-range _ _ _ c.requires))

pub returns : goal.returns
returns c = rw (c.from-third.ensures, c.from.ensures, c.from-2.ensures, c.from-3.ensures) (digits-read _ _ _ c.requires)
