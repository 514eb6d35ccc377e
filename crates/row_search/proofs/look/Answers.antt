use mathlib.Core.Path.{refl, ap, ◌∙◌}
use Prim.Native.Nat.{ℕ, ◌+◌}
use Rattle.row_search.specs.Search.{found}
use Rattle.row_search.proofs.CodeWays.{look-start, look-here, look-on, look-end}
use Rattle.row_search.proofs.look.Goals as goal

pub loop-row-init : goal.loop-row-init
loop-row-init c = (refl, look-start _ _)

pub returns-then-byte-entry : goal.returns-then-byte-entry
returns-then-byte-entry c =
    ap (λ (n : ℕ). found c.from-row.result (n + 1)) c.loop-row.invariant.0
    ∙ look-here _ _ c.loop-row.row-index _ _ _ c.loop-row-test.true c.from-row.ensures c.entry.ensures c.entry-in-loop-row.ensures c.if-byte-entry.true
    ∙ c.loop-row.invariant.1

pub loop-row-preserved : goal.loop-row-preserved
loop-row-preserved c = (
  ap (λ (n : ℕ). n + 1) c.loop-row.invariant.0,
  look-on _ _ c.loop-row.row-index _ _ _ c.loop-row-test.true c.from-row.ensures c.entry.ensures c.entry-in-loop-row.ensures c.if-byte-entry.false
      ∙ c.loop-row.invariant.1,
)

pub returns : goal.returns
returns c = ap (λ (n : ℕ). found 21 n) c.loop-row.invariant.0 ∙ look-end _ _ _ c.loop-row-test.false ∙ c.loop-row.invariant.1
