-- A turn starts with the reader at a place of the text, and with the newlines before that place counted.
use Rattle.std.proofs.Common.{length, drop, ◌-◌, ◌+◌, ◌≡◌}
use Rattle.lists.specs.Lists.{newlines}
use Rattle.lists.proofs.count_newlines.Given as goal

abbrev pub invariant-loop-reader : goal.invariant-loop-reader
invariant-loop-reader l = record {
  text_read : l.reader.text.now ≡ l.text;
  counted : l.count + newlines (drop l.reader.at l.text) ≡ newlines l.text;
}

abbrev pub decreases-loop-reader : goal.decreases-loop-reader
decreases-loop-reader l = length l.text - l.reader.at
