use mathlib.Core.Path.{◌≡◌}
use lib.ListN.{length}
use Rattle.record_words.specs.Words.{record_length}
use Rattle.record_words.proofs.CodeWays.{copied}
use Rattle.record_words.proofs.write_registers.Given as goal

abbrev pub invariant-loop-register : goal.invariant-loop-register
invariant-loop-register l = (length l.words ≡ record_length) × (l.words ≡ copied l.bytes l.initial.words l.register)
