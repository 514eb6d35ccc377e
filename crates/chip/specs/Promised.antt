-- The chip's behaviour, by name. The definitions stand in `engine`, `commands`, `display`, `phases` and `pixel_counts`: whoever does not list those crates can't open them.
pub use Rattle.engine.specs.Answer.{Answer, Refused, Nothing, Acknowledged, NotAcknowledged, Command, Read}
pub use Rattle.commands.specs.declared.answer.CommandAnswer.{CommandAnswer}
pub use Rattle.commands.specs.declared.answer.CommandAnswer.TheVariants.{Taken, Unknown, OutOfRange}
pub use Rattle.engine.specs.Event.{is_acknowledged, counts_as}
pub use Rattle.engine.specs.Step.{After, after, nothing_stored, Fit, entry_refusal, refusal_of, accepted, step_of}
pub use Rattle.engine.specs.Step.{counted, acknowledge}
pub use Rattle.phases.specs.Changes.{controlled, read_byte, pulsed, sensed}
pub use Rattle.phases.specs.Phases.{is_addressed, phase_after_address, phase_after_last_read}
pub use Rattle.engine.specs.PastEntry.{PastEntryNumber, step_past_entry, run_past_entry, tally_past_entry}
pub use Rattle.engine.specs.Run.{Outcome, outcome, run_from, run_of, count_unless, tally}
pub use Rattle.commands.specs.Command.{command_of, answer_to, command_number}
pub use Rattle.commands.specs.When.{CommandWhen}
pub use Rattle.display.specs.Display.{stored_of, place_of, next_address, pixels_after}
pub use Rattle.pixel_counts.specs.Counts.{counts_of, TrueCounts}
pub use Rattle.pixel_counts.specs.Mending.{shown, StaysIn, GoesOut}
