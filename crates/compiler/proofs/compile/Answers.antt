use native.Mathlib.Omega.{arith}
use mathlib.Core.Path.{sym, ◌∙◌}
use Rattle.compiler.proofs.CodeWays.{not_allowed, too_long, readable, read}
use Rattle.compiler.proofs.compile.Goals as goal

pub returns-then-not-allowed : goal.returns-then-not-allowed
returns-then-not-allowed c =
    let both = not_allowed _ c.args.text.now c.args.out.now (sym c.allowed.ensures ∙ c.if-not-allowed.true) in
    record { out_after = both.0; promise = both.1 }

pub returns-then-count_newlines-gt4096 : goal.returns-then-count_newlines-gt4096
returns-then-count_newlines-gt4096 c =
    let ok = sym c.allowed.ensures ∙ c.if-not-allowed.false in
    let both = too_long _ c.args.text.now c.args.out.now ok c.count_newlines.ensures (omega (arith, c.if-count_newlines-gt4096.true)) in
    record { out_after = both.0; promise = both.1 }

pub compile_lines-requires : goal.compile_lines-requires
compile_lines-requires c =
    let ok = sym c.allowed.ensures ∙ c.if-not-allowed.false in
    readable _ c.args.text.now ok c.count_newlines.ensures (omega (arith, c.if-count_newlines-gt4096.false)) c.blanked.ensures

pub returns : goal.returns
returns c =
    let ok = sym c.allowed.ensures ∙ c.if-not-allowed.false in
    let both =
    read _ c.args.text.now c.args.out.now ok c.count_newlines.ensures (omega (arith, c.if-count_newlines-gt4096.false)) c.blanked.ensures _ _ c.compile_lines.ensures
    in
    record { out_after = both.0; promise = both.1 }
