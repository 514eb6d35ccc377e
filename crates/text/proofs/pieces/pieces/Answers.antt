use Rattle.text.proofs.Finding.{count-bound}
use Rattle.text.proofs.Splitting.{split-count}
use native.Mathlib.Omega.{arith}
use mathlib.Core.Path.{sym, ap, ◌∙◌}
use Prim.Native.Nat.{ℕ, ◌+◌}
use Rattle.text.proofs.pieces.pieces.Goals as goal

pub overflow_add-result : goal.overflow_add-result
overflow_add-result c = omega (arith, c.count.ensures, count-bound c.args.separator c.args.s.now)

pub returns : goal.returns
returns c = ap (λ (n : ℕ). n + 1) c.count.ensures ∙ sym (split-count c.args.separator c.args.s.now)
