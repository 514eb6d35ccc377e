use Rattle.std.proofs.Common.{◌∙◌, ap}
use Rattle.record_words.specs.Words.{bit}
use Rattle.record_words.proofs.CodeWays.{bit_byte, written}
use Rattle.record_words.proofs.write_all.Goals as goal

pub returns : goal.returns
returns c =
    written c.args.chip c.args.words.now _ _ _ _ _ _ _ _ _ _ c.requires c.write_registers.ensures
    c.from.ensures c.from-2.ensures (c.from-3.ensures ∙ bit_byte c.args.chip.last_rs) c.number.ensures
    (c.from-4.ensures ∙ bit_byte c.rs.result ∙ ap bit c.rs.ensures) c.from-5.ensures c.from-6.ensures c.from-7.ensures c.from-8.ensures
