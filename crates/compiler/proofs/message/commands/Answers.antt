use mathlib.Core.Path.{refl}
use native.Mathlib.Omega.{arith}
use Rattle.compiler.proofs.Lines.{command-turn, commands-done}
use borrow.Author.Rules.{rules}
use Rattle.compiler.proofs.message.commands.Goals as goal

pub loop-byte-init : goal.loop-byte-init
loop-byte-init c = (search rules, refl, λ l j w. w)

pub loop-byte-preserved : goal.loop-byte-preserved
loop-byte-preserved c = (
  search rules,
  search rules,
  λ l j w.
      c.loop-byte.invariant.2 l j
      (command-turn _ _ c.loop-byte-test.true c.pair-here.ensures w),
)

pub returns : goal.returns
returns c = c.loop-byte.invariant.2 _ _ (commands-done _ _ _ c.loop-byte.byte-index (omega arith))
