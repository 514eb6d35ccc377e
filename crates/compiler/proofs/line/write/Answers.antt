use mathlib.Core.Path.{ap}
use native.Mathlib.Omega.{arith}
use lib.ListN.{length}
use Rattle.compiler.proofs.Lines.{valid-fill, fill-line-events, set_room, fill-line-wrote, set-line-wrote}
use Rattle.compiler.proofs.line.write.Goals as goal

pub write-requires : goal.write-requires
write-requires c =
    let is = c.in-Fill.is in
    let events = fill-line-events c.args.pins _ c.args.registers _ _ _ _ _ is in
    (valid-fill _ c.requires.0 _ _ _ _ _ is, omega (arith, c.requires.1, ap length events))

pub set-requires : goal.set-requires
set-requires c =
    let room = set_room c.args.pins _ c.args.registers _ _ _ c.in-Set.is c.with_field-target.ensures in
    omega (arith, c.requires.1, room)

pub returns-in-Fill : goal.returns-in-Fill
returns-in-Fill c =
    let start = c.args in
    fill-line-wrote start.pins start.line start.registers _ _ _ _ _ c.in-Fill.is c.write.ensures

pub returns-in-Set : goal.returns-in-Set
returns-in-Set c =
    let start = c.args in
    set-line-wrote start.pins start.line start.registers _ _ _ c.in-Set.is c.with_field-target.ensures
    c.set.ensures
