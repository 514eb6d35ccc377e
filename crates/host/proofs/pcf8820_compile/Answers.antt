use Rattle.host.proofs.CodeWays.{compile-no-record, compile-done}
use Rattle.host.proofs.pcf8820_compile.Goals as goal

pub returns-in_default : goal.returns-in_default
returns-in_default c = compile-no-record _ _ c.read_record.ensures c.in_default.is _ _

pub returns : goal.returns
returns c =
    compile-done _ _ _ c.read_record.ensures c.in-Some.is _ _ _ _ _ c.compile.ensures.out_after c.of-numbers.ensures
