-- The call of a C host that compiles a drawing list: the number, the three out-numbers and the output, for every input.
use Rattle.std.specs.Prelude.{cond, List, ℕ}
use Rattle.compiler.specs.declared.answer.Numbers.{Numbers}
use Rattle.compiler.specs.Compile.{compile_of, numbers_of}
use Rattle.record_words.specs.Words.{stands_for, chip_of}

pub record Compiled : Type 0 where
  pub number : ℕ
  pub length : ℕ
  pub clocks : ℕ
  pub line : ℕ
  pub out : List ℕ

abbrev pub compiled : ℕ → ℕ → ℕ → ℕ → List ℕ → Compiled
compiled n l c i out = record { number = n; length = l; clocks = c; line = i; out = out }

abbrev pub with_numbers : Numbers → List ℕ → Compiled
with_numbers t out = compiled t.number t.length t.clocks t.line out

-- words that stand for no record are refused by 2
unfoldable pub compile_call : List ℕ → List ℕ → List ℕ → Compiled
compile_call ws text out =
    cond (stands_for ws) (with_numbers (numbers_of (compile_of (chip_of ws) text out).answer) (compile_of (chip_of ws) text out).out) (compiled 2 0 0 0 out)
