use mathlib.Core.Path.{ap, sym, ◌∙◌}
use mathlib.Core.List.{List}
use Prim.Native.Nat.{ℕ}
use lib.ListN.{set}
use lib.Seq.{set_out}
use Rattle.registers.specs.Record.{values, of_values}
use Rattle.registers.proofs.Registers.with.Goals as goal

pub returns-then-place-ge29 : goal.returns-then-place-ge29
returns-then-place-ge29 c = sym (ap of_values (set_out (values c.args.self) _ _ c.if-place-ge29.true))

pub returns : goal.returns
returns c =
    let given = c.args in
    c.of_bytes.ensures ∙ ap (λ (l : List ℕ). of_values (set l given.place given.value)) c.bytes-b.ensures
