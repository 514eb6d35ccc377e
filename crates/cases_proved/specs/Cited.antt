-- Every definition of another crate that the cases speak of.
pub use Rattle.std.specs.Prelude.{get_or, length, set, replicate, take}
pub use Rattle.registers.specs.declared.Registers.{Registers}
pub use Rattle.registers.specs.declared.Chip.{Chip}
pub use Rattle.registers.specs.declared.PixelCounts.{PixelCounts}
pub use Rattle.registers.specs.declared.Phase.TheVariants.{EndlessBytes}
pub use Rattle.commands.specs.declared.answer.CommandAnswer.TheVariants.{Taken, Unknown, OutOfRange}
pub use Rattle.registers.specs.Places.{H, DO, PD, «V», D, E, MX, MY, PS, X, Y, DP, SM, GR, GS0, GS1, GS2, GS3, DOF, DM, EC, OC}
pub use Rattle.registers.specs.Record.{values, of_values, put, blank, reset_registers, reset_chip, in_phase, with_registers, with_pixels, count_for}
pub use Rattle.registers.specs.State.{State, state, places}
pub use Rattle.engine.specs.Answer.{Answer, Refused, Nothing, Acknowledged, NotAcknowledged, Command, Read}
pub use Rattle.engine.specs.Event.{number_of as answerNumber}
pub use Rattle.pixel_counts.specs.Counts.{TrueCounts}
pub use Rattle.engine.specs.Step.{After, Fit}
pub use Rattle.engine.specs.Run.{Outcome}
pub use Rattle.chip.specs.LastWriter.{before}
pub use Rattle.chip.specs.Phases.{awaits_command}
pub use Rattle.chip.specs.Plays.{Good, played, message, data_message}
pub use Rattle.text.specs.Text.{bytes, same_bytes}
pub use Rattle.lists.specs.declared.Line.{Line}
pub use Rattle.lists.specs.declared.Line.TheVariants.{Fill}
pub use Rattle.lists.specs.Lists.{Reading, faulty, lines}
pub use Rattle.drawing.specs.Demand3.{Demand3, Draws}
pub use Rattle.drawing.specs.Plain.{Picture, picture_of, plain_reading}
pub use Rattle.compiler.specs.declared.answer.Numbers.{Numbers}
pub use Rattle.compiler.specs.Compile.{Result, numbers_of, lines_of}
pub use Rattle.capture.specs.Replay.{Replay, refused_by, refused_at, replayed}
pub use Rattle.glass.specs.declared.answer.Shown.{Shown}
pub use Rattle.glass.specs.Answer.{shown_number, cell_number}
pub use Rattle.glass.specs.Pixel.{Pixel, dark, undriven, uses}
pub use Rattle.glass.specs.When.{pixel_on}
pub use Rattle.pulses.specs.declared.answer.Pulses.{Pulses}
pub use Rattle.pulses.specs.Answer.{pulses_number}
pub use Rattle.pulses.specs.Pulse.{pulses_of}
pub use Rattle.pulses.specs.Row.{PulseRow}
pub use Rattle.record_words.specs.Words.{PINS, PHASE, PIXELS}
pub use Rattle.wire_words.specs.Words.{UNCLEAR, LAST, STAGE, BITS, VALUE}
pub use Rattle.wire_words.specs.Calls.{Started, Called}
pub use Rattle.host.specs.Calls.{Reset, Stepped, Ran}
pub use Rattle.host.specs.Compiling.{Compiled}
pub use Rattle.host.specs.Counting.{Counts}
-- these are opened where a case is computed
unfoldable pub use Rattle.registers.specs.Record.{allowed}
unfoldable pub use Rattle.registers.specs.Table.{row_at}
unfoldable pub use Rattle.commands.specs.Command.{command_of, answer_to}
unfoldable pub use Rattle.pixel_counts.specs.Counts.{in_row, in_rows, count_of, counts_of, counting_start}
unfoldable pub use Rattle.pixel_counts.specs.Mending.{tally as pixelTally, shown, mendable, mended}
unfoldable pub use Rattle.display.specs.Display.{stored_of, column_of, place_of, next_address, pixels_fit, pixels_after}
unfoldable pub use Rattle.engine.specs.Event.{is_acknowledged}
unfoldable pub use Rattle.phases.specs.Phases.{is_addressed, phase_after_address, phase_after_last_read}
unfoldable pub use Rattle.engine.specs.Step.{entry_refusal, event_refusal, pixel_refusal, refusal_of, acknowledge, applied, accepted, step_of}
unfoldable pub use Rattle.phases.specs.Changes.{controlled, read_byte, pulsed, sensed}
unfoldable pub use Rattle.engine.specs.Run.{run_from, run_of, tally}
unfoldable pub use Rattle.engine.specs.PastEntry.{refusal_past_entry, step_past_entry, run_past_entry, tally_past_entry}
unfoldable pub use Rattle.chip.specs.Plays.{Plays}
unfoldable pub use Rattle.text.specs.Decimal.{number_of}
unfoldable pub use Rattle.lists.specs.Line.{line_of}
unfoldable pub use Rattle.lists.specs.Lists.{reading_from, reading_of}
unfoldable pub use Rattle.drawing.specs.Plain.{filled, set_to}
unfoldable pub use Rattle.drawing.specs.Stream.{line_events, stream}
unfoldable pub use Rattle.compiler.specs.Compile.{compile_of}
unfoldable pub use Rattle.glass.specs.Glass.{place_refusal, glass_refusal, cell_of, glass_of}
unfoldable pub use Rattle.pulses.specs.Row.{row_bytes, row_refusal, row_of}
unfoldable pub use Rattle.record_words.specs.Words.{stands_for, chip_of, words_of}
unfoldable pub use Rattle.wire_samples.specs.Signal.{signal_of}
unfoldable pub use Rattle.wire_samples.specs.Sample.{on_stop, on_bit, on_signal, sample_of}
unfoldable pub use Rattle.wire_samples.specs.Feed.{after_all, events_of, fitting, is_allowed, are_samples, refusal_of as samplesRefusal, feed_of}
unfoldable pub use Rattle.wire_words.specs.Words.{stands_for as areWires, wires_of}
unfoldable pub use Rattle.wire_words.specs.Calls.{start_call, wires_call}
unfoldable pub use Rattle.host.specs.Calls.{reset_call, step_call, run_call}
unfoldable pub use Rattle.host.specs.Views.{glass_call, place_call}
unfoldable pub use Rattle.host.specs.Pulses.{pulses_call, pulse_row_call}
unfoldable pub use Rattle.host.specs.Compiling.{compile_call}
unfoldable pub use Rattle.host.specs.Counting.{counts_call}
unfoldable pub use Rattle.capture_lines.specs.Line.{pins_of}
unfoldable pub use Rattle.capture.specs.Replay.{replay_of}
