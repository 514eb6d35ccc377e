use native.Mathlib.Omega.{arith}
use Rattle.compiler.proofs.Lines.{message-wrote, said-length, said-next}
use Rattle.compiler.proofs.message.set.Goals as goal

pub slice_bounds-bytes-end : goal.slice_bounds-bytes-end
slice_bounds-bytes-end c =
    omega (arith, c.set_commands-asked.ensures.1)

pub slice_bounds-commands-end : goal.slice_bounds-commands-end
slice_bounds-commands-end c =
    (said-length _ _ _ c.set_commands-asked.ensures).0

pub commands-commanded-requires : goal.commands-commanded-requires
commands-commanded-requires c =
    let said = c.set_commands-asked.ensures in
    omega (arith, said.1, c.pair-started.ensures.next, said-length _ _ _ said)

pub put-requires : goal.put-requires
put-requires c =
    let said = c.set_commands-asked.ensures in
    omega (arith, c.pair-started.ensures.next, said-next _ _ _ said c.commands-commanded.ensures)

pub returns : goal.returns
returns c =
    let said = c.set_commands-asked.ensures in
    message-wrote _ _ _ _ c.write_address.ensures said.0 c.pair-started.ensures c.commands-commanded.ensures c.put.ensures
