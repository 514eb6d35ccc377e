use Rattle.record_words.proofs.CodeWays.{chip-read}
use Rattle.record_words.proofs.Stands.{stands-length}
use Rattle.record_words.proofs.chip.Goals as goal

pub returns : goal.returns
returns c =
    chip-read c.args.words.now _ _ _ _ (stands-length _ c.requires) c.register_bytes.ensures
    c.of_bytes.ensures c.of.ensures c.pixels.ensures
