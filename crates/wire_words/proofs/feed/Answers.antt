use Rattle.std.proofs.Common.{rules}
use Rattle.wire_words.proofs.CodeWays.{feed-refused, read-long, feed-done}
use Rattle.wire_words.proofs.feed.Goals as goal

pub returns-in_default : goal.returns-in_default
returns-in_default c = feed-refused _ _ c.read_state.ensures _ _ _ c.in_default.is (search rules)

pub write_state-requires : goal.write_state-requires
write_state-requires c = read-long _ _ c.read_state.ensures 0 _ c.in-Some.is

pub returns : goal.returns
returns c =
    feed-done _ _ c.read_state.ensures _ _ _ _ c.in-Some.is _ _ _ c.feed-fed.ensures.value
    c.feed-fed.ensures.events_after (search rules) (search rules)
