use mathlib.Core.Path.{refl}
use Rattle.compiler.proofs.CodeWays.{clocks-room}
use Rattle.compiler.proofs.compile_lines.Goals as goal

pub overflow_mul-result : goal.overflow_mul-result
overflow_mul-result c =
    record { fits = clocks-room _ _ _ _ c.in_ok-length.ensures _ _ refl c.requires.0 }
