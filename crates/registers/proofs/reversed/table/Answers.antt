use Rattle.registers.proofs.Tables.{reversed-at}
use Rattle.registers.proofs.reversed.table.Goals as goal

pub returns : goal.returns
returns c = record { entry = reversed-at }
