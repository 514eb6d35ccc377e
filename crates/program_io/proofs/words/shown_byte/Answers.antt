use Rattle.program_io.proofs.words.shown_byte.Goals as goal

pub returns-then-byte : goal.returns-then-byte
returns-then-byte c = simp c.if-byte.true

pub returns-else-byte : goal.returns-else-byte
returns-else-byte c = simp c.if-byte.false
