use native.Mathlib.Omega.{arith}
use Rattle.compiler.proofs.Lines.{valid-fill, fill-line-counts, set-line-counts}
use Rattle.compiler.proofs.Settings.{set-length-bound}
use Rattle.compiler.proofs.line.count.Goals as goal

pub count-requires : goal.count-requires
count-requires c =
    valid-fill _ c.requires.0 _ _ _ _ _ c.in-Fill.is

pub overflow_mul-words : goal.overflow_mul-words
overflow_mul-words c = omega (arith, c.commands_count-words.ensures, set-length-bound c.in-Set.field)

pub overflow_add-result : goal.overflow_add-result
overflow_add-result c = omega (arith, c.commands_count-words.ensures, set-length-bound c.in-Set.field)

pub overflow_add-result-in-Set : goal.overflow_add-result-in-Set
overflow_add-result-in-Set c = omega (arith, c.commands_count-words.ensures, set-length-bound c.in-Set.field)

pub returns-in-Fill : goal.returns-in-Fill
returns-in-Fill c =
    let pre = c.requires in
    fill-line-counts _ _ _ pre.0 pre.2 _ _ _ _ _ c.in-Fill.is c.count.ensures

pub returns-in-Set : goal.returns-in-Set
returns-in-Set c =
    let pre = c.requires in
    set-line-counts _ _ _ pre.0 pre.2 pre.1 _ _ c.in-Set.is c.commands_count-words.ensures
