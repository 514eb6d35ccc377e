use Rattle.program_io.specs.Answers.{answer_of}
use Rattle.trace_file.proofs.read_once.Goals as goal

pub returns : goal.returns
returns c =
    let came = c.take_in.ensures in
    record { is_turn = record { answer = answer_of _ _; is_taken_in = came.writers_after }; is_tallied = came.tally_value; is_told = came.prints }
