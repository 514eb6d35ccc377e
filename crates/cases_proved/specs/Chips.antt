-- Wrong chips: what events do to a chosen state, and what a wrong chip would make of them. Document 01's classroom errors are among them, and the chips
-- that it shuts out by name: one constant acknowledge, one that stays idle, one that refuses everything, a run of the first event only.
use Rattle.std.specs.Prelude.{List, [], ◌∷◌, ◌++◌, ◌+◌, ◌-◌, ◌^◌}
use Rattle.cases_proved.specs.Cited.{H, DO, PD, «V», D, MX, X, Y, SM, GR, GS0, GS2, GS3, DOF, EC}
use Rattle.cases_proved.specs.Behaviour.{Behaviour, register, count, status, last_rs, cell, writer, leave, answer, run_leaves, run_done}
use Rattle.cases_proved.specs.Behaviour.{run_refusal, run_unknown, run_out_of_range, command_taken, command_unknown, command_out_of_range}
use Rattle.cases_proved.specs.Behaviour.{START, STOP, READ, READLAST, RESET, sensor, nothing, acknowledged, not_acknowledged, byte_read, commands}
use Rattle.cases_proved.specs.Behaviour.{display_bytes}
use Rattle.cases_proved.specs.Observed.{Observation, ◌gives◌not◌}
use Rattle.cases_proved.specs.Pixels.{pixel_counts}
use Rattle.cases_proved.specs.Start.{◌is◌, upon, counting, lent, with_pins}

unfoldable pub bus_events : List (Observation Behaviour)
bus_events =
    -- every accepted event adds 1: not none, not two
    leave (upon []) (START ∷ []) count gives 1 not 0
    ∷ leave (upon []) (START ∷ []) count gives 1 not 2
    ∷ leave (upon []) (0x85 ∷ []) count gives 1 not 0
    ∷ leave (upon []) (RESET ∷ []) count gives 1 not 0
    -- one constant acknowledge: the address of the chip with pins 1
    ∷ answer (upon []) (START ∷ []) 0x7A gives not_acknowledged not acknowledged
    -- a chip that stays idle
    ∷ answer (upon []) (START ∷ []) 0x78 gives acknowledged not not_acknowledged
    -- pins that are not asked
    ∷ answer (with_pins 1 (upon [])) (START ∷ []) 0x7A gives acknowledged not not_acknowledged
    -- a byte taken while idle, while ignoring, and after STOP
    ∷ answer (upon []) [] 0x78 gives not_acknowledged not acknowledged
    ∷ answer (upon []) (START ∷ 0x7A ∷ []) 0x40 gives not_acknowledged not acknowledged
    ∷ leave (upon []) (display_bytes (1 ∷ []) ++ STOP ∷ 2 ∷ []) (cell 1 0) gives 0 not 2
    -- START only from idle
    ∷ answer (upon []) (display_bytes (1 ∷ []) ++ START ∷ []) 0x78 gives acknowledged not not_acknowledged
    -- a Co = 0 run that ends after one byte
    ∷ leave (upon []) (display_bytes (1 ∷ 2 ∷ [])) (cell 1 0) gives 2 not 0
    -- a Co = 1 byte that does not end after one
    ∷ leave (upon []) (START ∷ 0x78 ∷ 0xC0 ∷ 1 ∷ 2 ∷ []) (cell 1 0) gives 0 not 2
    -- RS the wrong way round: a command stored, and a display byte taken as X 5
    ∷ leave (upon []) (commands (0x85 ∷ [])) (cell 0 0) gives 0 not 0x85
    ∷ leave (upon []) (display_bytes (0x85 ∷ [])) (register X) gives 1 not 5
    -- the other bits of a control byte
    ∷ leave (upon []) (START ∷ 0x78 ∷ 0x7F ∷ 1 ∷ []) (cell 0 0) gives 1 not 0
    -- an answer to START
    ∷ answer (upon []) [] START gives nothing not acknowledged
    -- ---- reading
    -- 255 where the last RS is 0, and TR where it is 1
    ∷ answer (upon (SM is 1 ∷ PD is 0 ∷ [])) (sensor 77 ∷ START ∷ 0x79 ∷ []) READ gives byte_read 77 not byte_read 255
    ∷ answer (upon (SM is 1 ∷ PD is 0 ∷ [])) (sensor 77 ∷ display_bytes [] ++ START ∷ 0x79 ∷ []) READ gives byte_read 255 not byte_read 77
    -- the control byte does not set the last RS, to 1 and back to 0
    ∷ leave (upon []) (display_bytes []) last_rs gives 1 not 0
    ∷ leave (upon []) (START ∷ 0x78 ∷ 0xC0 ∷ 1 ∷ 0x80 ∷ []) last_rs gives 0 not 1
    -- a read that goes on after the byte that was not acknowledged, and one that ends before
    ∷ answer (upon (SM is 1 ∷ PD is 0 ∷ [])) (sensor 77 ∷ START ∷ 0x79 ∷ READLAST ∷ []) READ gives byte_read 255 not byte_read 77
    ∷ answer (upon (SM is 1 ∷ PD is 0 ∷ [])) (sensor 77 ∷ START ∷ 0x79 ∷ READ ∷ []) READ gives byte_read 77 not byte_read 255
    -- TR read while idle
    ∷ answer (upon (SM is 1 ∷ PD is 0 ∷ [])) (sensor 77 ∷ []) READ gives byte_read 255 not byte_read 77
    -- a byte taken while reading, and a read that goes on after it
    ∷ answer (upon []) (START ∷ 0x79 ∷ []) 0x40 gives not_acknowledged not acknowledged
    ∷ answer (upon (SM is 1 ∷ PD is 0 ∷ [])) (sensor 77 ∷ START ∷ 0x79 ∷ 0x40 ∷ []) READ gives byte_read 255 not byte_read 77
    -- ---- the sensor: not taken; taken in power-down, and with SM = 0; stopped by DOF
    ∷ leave (upon (SM is 1 ∷ PD is 0 ∷ [])) (sensor 77 ∷ []) status gives 77 not 0
    ∷ leave (upon (SM is 1 ∷ PD is 1 ∷ [])) (sensor 77 ∷ []) status gives 0 not 77
    ∷ leave (upon (SM is 0 ∷ PD is 0 ∷ [])) (sensor 77 ∷ []) status gives 0 not 77
    ∷ leave (upon (SM is 1 ∷ PD is 0 ∷ DOF is 1 ∷ [])) (sensor 77 ∷ []) status gives 77 not 0
    -- ---- the reset pulse: a register kept, where reset is 1 and where it is 0
    ∷ leave (upon (PD is 0 ∷ [])) (RESET ∷ []) (register PD) gives 1 not 0
    ∷ leave (upon (DOF is 0 ∷ [])) (RESET ∷ []) (register DOF) gives 1 not 0
    ∷ leave (upon (GS3 is 63 ∷ [])) (RESET ∷ []) (register GS3) gives 0 not 63
    -- the phase, TR and the last RS kept
    ∷ answer (upon []) (START ∷ RESET ∷ []) 0x78 gives not_acknowledged not acknowledged
    ∷ leave (upon (SM is 1 ∷ PD is 0 ∷ [])) (sensor 77 ∷ RESET ∷ []) status gives 0 not 77
    ∷ leave (upon []) (display_bytes [] ++ RESET ∷ []) last_rs gives 0 not 1
    -- count, pins or a memory set back
    ∷ leave (upon []) (START ∷ STOP ∷ RESET ∷ []) count gives 3 not 1
    ∷ answer (with_pins 1 (upon [])) (RESET ∷ START ∷ []) 0x7A gives acknowledged not not_acknowledged
    ∷ leave (upon []) (display_bytes (0xA7 ∷ []) ++ RESET ∷ []) (cell 0 0) gives 0xA7 not 0
    ∷ leave (upon []) (display_bytes (0xA7 ∷ []) ++ RESET ∷ []) (writer 0 0) gives 4 not 0
    ∷ []

unfoldable pub command_bytes : List (Observation Behaviour)
command_bytes =
    -- X 101, Y 17 and page 5 taken
    leave (upon (X is 5 ∷ [])) (commands (0xE5 ∷ [])) (register X) gives 5 not 101
    ∷ leave (upon (Y is 3 ∷ [])) (commands (0x51 ∷ [])) (register Y) gives 3 not 17
    ∷ leave (upon []) (commands (0x0D ∷ [])) (register H) gives 0 not 5
    -- X 100, Y 16 and page 4 not taken
    ∷ leave (upon (X is 5 ∷ [])) (commands (0xE4 ∷ [])) (register X) gives 100 not 5
    ∷ leave (upon (Y is 3 ∷ [])) (commands (0x50 ∷ [])) (register Y) gives 16 not 3
    ∷ leave (upon []) (commands (0x0C ∷ [])) (register H) gives 4 not 0
    -- page return only in page 0
    ∷ leave (upon (H is 4 ∷ [])) (commands (0x01 ∷ [])) (register H) gives 0 not 4
    -- a row of page 1 taken in page 0, and not taken in its own
    ∷ leave (upon []) (commands (0b0000_0110 ∷ [])) (register D) gives 0 not 1
    ∷ leave (upon (H is 1 ∷ [])) (commands (0b0000_0110 ∷ [])) (register D) gives 1 not 0
    -- PD dropped while V is set, and kept whatever the byte says of it; V not taken; PD with the bit of DO
    ∷ leave (upon (PD is 1 ∷ [])) (commands (0b0001_0110 ∷ [])) (register PD) gives 1 not 0
    ∷ leave (upon (PD is 1 ∷ [])) (commands (0b0001_0010 ∷ [])) (register PD) gives 0 not 1
    ∷ leave (upon (PD is 1 ∷ [])) (commands (0b0001_0110 ∷ [])) (register «V») gives 1 not 0
    ∷ leave (upon []) (commands (0b0001_1010 ∷ [])) (register PD) gives 0 not 1
    -- a level to grey register 0, whatever GR selects
    ∷ leave (upon (H is 3 ∷ GR is 2 ∷ [])) (commands (0b1010_0001 ∷ [])) (register GS2) gives 33 not 0
    ∷ leave (upon (H is 3 ∷ GR is 2 ∷ [])) (commands (0b1010_0001 ∷ [])) (register GS0) gives 0 not 33
    -- 63 written to a grey register as 64, the level that it shows; and a register of 63 written back as 64 later
    ∷ leave (upon (H is 3 ∷ GR is 2 ∷ [])) (commands (0b1011_1111 ∷ [])) (register GS2) gives 63 not 64
    ∷ leave (upon (GS2 is 63 ∷ [])) (START ∷ []) (register GS2) gives 63 not 64
    ∷ leave (upon (GS2 is 63 ∷ [])) (display_bytes (0xA7 ∷ [])) (register GS2) gives 63 not 64
    -- two rows of page 4 that take the same byte
    ∷ leave (upon (H is 4 ∷ [])) (commands (0b0000_1010 ∷ [])) (register EC) gives 1 not 0
    ∷ leave (upon (H is 4 ∷ DOF is 0 ∷ [])) (commands (0b0000_1010 ∷ [])) (register DOF) gives 0 not 1
    ∷ []

-- document 02, W5
unfoldable pub command_answers : List (Observation Behaviour)
command_answers =
    -- a byte of no row that is not acknowledged; a command that gets a plain acknowledge, whichever of the three it is
    answer (upon (H is 1 ∷ [])) (commands []) 0x85 gives command_unknown not not_acknowledged
    ∷ answer (upon (H is 1 ∷ [])) (commands []) 0x85 gives command_unknown not acknowledged
    ∷ answer (upon []) (commands []) 0x85 gives command_taken not acknowledged
    ∷ answer (upon []) (commands []) 0xE5 gives command_out_of_range not acknowledged
    -- out of range told as taken: X 101 and 127, Y 17 and 31, pages 5 and 7
    ∷ answer (upon []) (commands []) 0xE5 gives command_out_of_range not command_taken
    ∷ answer (upon []) (commands []) 0xFF gives command_out_of_range not command_taken
    ∷ answer (upon []) (commands []) 0x51 gives command_out_of_range not command_taken
    ∷ answer (upon []) (commands []) 0x5F gives command_out_of_range not command_taken
    ∷ answer (upon []) (commands []) 0x0D gives command_out_of_range not command_taken
    ∷ answer (upon []) (commands []) 0x0F gives command_out_of_range not command_taken
    -- and as unknown
    ∷ answer (upon []) (commands []) 0xE5 gives command_out_of_range not command_unknown
    ∷ answer (upon []) (commands []) 0x51 gives command_out_of_range not command_unknown
    ∷ answer (upon []) (commands []) 0x0D gives command_out_of_range not command_unknown
    -- the last X, Y and page told as out of range
    ∷ answer (upon []) (commands []) 0xE4 gives command_taken not command_out_of_range
    ∷ answer (upon []) (commands []) 0x50 gives command_taken not command_out_of_range
    ∷ answer (upon []) (commands []) 0x0C gives command_taken not command_out_of_range
    -- unknown told as out of range, and as taken; X 101 seen in page 1, where E5h is of no row, and in page 2, where it is VOP 101; X 5 in page 1
    ∷ answer (upon []) (commands []) 0x02 gives command_unknown not command_out_of_range
    ∷ answer (upon []) (commands []) 0x02 gives command_unknown not command_taken
    ∷ answer (upon (H is 1 ∷ [])) (commands []) 0xE5 gives command_unknown not command_out_of_range
    ∷ answer (upon (H is 2 ∷ [])) (commands []) 0xE5 gives command_taken not command_out_of_range
    ∷ answer (upon (H is 1 ∷ [])) (commands []) 0x85 gives command_unknown not command_taken
    -- a command without effect told as unknown: NOP in two pages, page return in page 0, row block swapping, and what sets a register to what it held
    ∷ answer (upon []) (commands []) 0x00 gives command_taken not command_unknown
    ∷ answer (upon (H is 3 ∷ [])) (commands []) 0x00 gives command_taken not command_unknown
    ∷ answer (upon []) (commands []) 0x01 gives command_taken not command_unknown
    ∷ answer (upon (H is 4 ∷ [])) (commands []) 0b0100_0000 gives command_taken not command_unknown
    ∷ answer (upon (H is 4 ∷ [])) (commands []) 0b0101_1000 gives command_taken not command_unknown
    ∷ answer (upon (X is 5 ∷ [])) (commands []) 0x85 gives command_taken not command_unknown
    ∷ answer (upon (H is 3 ∷ GR is 2 ∷ GS2 is 33 ∷ [])) (commands []) 0b1010_0001 gives command_taken not command_unknown
    -- page return out of page 4 told as unknown, and a page command told by the page after it
    ∷ answer (upon (H is 4 ∷ [])) (commands []) 0x01 gives command_taken not command_unknown
    ∷ answer (upon []) (commands []) 0x0C gives command_taken not command_unknown
    -- an address, a control byte and a display byte told as the commands that they would be
    ∷ answer (upon []) (START ∷ []) 0x78 gives acknowledged not command_unknown
    ∷ answer (upon []) (START ∷ 0x78 ∷ []) 0x80 gives acknowledged not command_taken
    ∷ answer (upon []) (display_bytes []) 0xE5 gives acknowledged not command_out_of_range
    ∷ answer (upon []) (display_bytes []) 0x02 gives acknowledged not command_unknown
    -- after 80h, as after 00h
    ∷ answer (upon []) (START ∷ 0x78 ∷ 0x80 ∷ []) 0xE5 gives command_out_of_range not acknowledged
    ∷ answer (upon []) (START ∷ 0x78 ∷ 0x80 ∷ []) 0x02 gives command_unknown not acknowledged
    -- ---- what a run counts: exchanged, the first of each only, none
    ∷ run_unknown (upon []) (commands (0x02 ∷ 0xE5 ∷ 0x02 ∷ [])) gives 2 not 1
    ∷ run_out_of_range (upon []) (commands (0x02 ∷ 0xE5 ∷ 0x02 ∷ [])) gives 1 not 2
    ∷ run_out_of_range (upon []) (commands (0xE5 ∷ 0x02 ∷ 0x51 ∷ [])) gives 2 not 1
    ∷ run_out_of_range (upon []) (commands (0xE5 ∷ 0x02 ∷ 0x51 ∷ [])) gives 2 not 0
    -- both in both
    ∷ run_unknown (upon []) (commands (0x02 ∷ 0xE5 ∷ 0x02 ∷ [])) gives 2 not 3
    -- commands that were taken counted as unknown; display bytes, and bytes that are ignored, counted as the commands that they would be
    ∷ run_unknown (upon []) (commands (0x02 ∷ 0x00 ∷ 0x85 ∷ [])) gives 1 not 3
    ∷ run_unknown (upon []) (display_bytes (0x02 ∷ [])) gives 0 not 1
    ∷ run_out_of_range (upon []) (display_bytes (0xE5 ∷ [])) gives 0 not 1
    ∷ run_unknown (upon []) (START ∷ 0x7A ∷ 0x00 ∷ 0x02 ∷ []) gives 0 not 1
    -- a refused event counted, by 4 and at entry; and the counts lost where the run is refused, by 3 and by 4
    ∷ run_unknown (counting (2 ^ 64 - 5) (upon [])) (commands (0x02 ∷ 0x02 ∷ [])) gives 1 not 2
    ∷ run_out_of_range (counting (2 ^ 64 - 5) (upon [])) (commands (0xE5 ∷ 0xE5 ∷ [])) gives 1 not 2
    ∷ run_unknown (lent 1716 1717 (upon [])) (commands (0x02 ∷ [])) gives 0 not 1
    ∷ run_out_of_range (upon (X is 101 ∷ [])) (commands (0xE5 ∷ [])) gives 0 not 1
    ∷ run_unknown (upon []) (commands (0x02 ∷ []) ++ 261 ∷ []) gives 1 not 0
    ∷ run_out_of_range (counting (2 ^ 64 - 5) (upon [])) (commands (0xE5 ∷ 0xE5 ∷ [])) gives 1 not 0
    -- those after a refused event
    ∷ run_unknown (upon []) (START ∷ 0x78 ∷ 0x00 ∷ 0x02 ∷ 261 ∷ 0x02 ∷ []) gives 1 not 2
    ∷ []

unfoldable pub display_data : List (Observation Behaviour)
display_data =
    -- bank 16: masked before the swap; eight bits kept; six bits in another bank
    leave (upon (DO is 1 ∷ Y is 16 ∷ [])) (display_bytes (0x0F ∷ [])) (cell 0 16) gives 0x30 not 0xF0
    ∷ leave (upon (Y is 16 ∷ [])) (display_bytes (0xFF ∷ [])) (cell 0 16) gives 0x3F not 0xFF
    ∷ leave (upon (Y is 15 ∷ [])) (display_bytes (0xFF ∷ [])) (cell 0 15) gives 0xFF not 0x3F
    -- no swap where DO = 1, and one where DO = 0
    ∷ leave (upon (DO is 1 ∷ [])) (display_bytes (0xA7 ∷ [])) (cell 0 0) gives 0xE5 not 0xA7
    ∷ leave (upon (DO is 0 ∷ [])) (display_bytes (0xA7 ∷ [])) (cell 0 0) gives 0xA7 not 0xE5
    -- mirrored without MX, and not mirrored with it
    ∷ leave (upon (MX is 0 ∷ X is 5 ∷ [])) (display_bytes (0xA7 ∷ [])) (cell 5 0) gives 0xA7 not 0
    ∷ leave (upon (MX is 1 ∷ X is 5 ∷ [])) (display_bytes (0xA7 ∷ [])) (cell 95 0) gives 0xA7 not 0
    -- power-down and display off that stop a write
    ∷ leave (upon (PD is 1 ∷ DOF is 0 ∷ [])) (display_bytes (0xA7 ∷ [])) (cell 0 0) gives 0xA7 not 0
    ∷ leave (upon (PD is 0 ∷ DOF is 1 ∷ [])) (display_bytes (0xA7 ∷ [])) (cell 0 0) gives 0xA7 not 0
    -- events numbered from 0, the first writer kept, and a writer number of 32 bits
    ∷ leave (upon []) (display_bytes (0xA7 ∷ [])) (writer 0 0) gives 4 not 3
    ∷ leave (upon []) (display_bytes (1 ∷ []) ++ commands (0x80 ∷ []) ++ display_bytes (2 ∷ [])) (writer 0 0) gives 12 not 4
    ∷ leave (counting (2 ^ 32 - 1) (upon [])) (display_bytes (0xA7 ∷ [])) (writer 0 0) gives 2 ^ 32 + 3 not 3
    -- the counter, V = 0: not moved; on to the next bank early; wrapped early, late, and into the same bank
    ∷ leave (upon (X is 5 ∷ Y is 3 ∷ [])) (display_bytes (0 ∷ [])) (register X) gives 6 not 5
    ∷ leave (upon (X is 5 ∷ Y is 3 ∷ [])) (display_bytes (0 ∷ [])) (register Y) gives 3 not 4
    ∷ leave (upon (X is 99 ∷ Y is 3 ∷ [])) (display_bytes (0 ∷ [])) (register X) gives 100 not 0
    ∷ leave (upon (X is 100 ∷ Y is 3 ∷ [])) (display_bytes (0 ∷ [])) (register X) gives 0 not 101
    ∷ leave (upon (X is 100 ∷ Y is 3 ∷ [])) (display_bytes (0 ∷ [])) (register Y) gives 4 not 3
    ∷ leave (upon (X is 100 ∷ Y is 16 ∷ [])) (display_bytes (0 ∷ [])) (register Y) gives 0 not 17
    -- V = 1, the same; and V not asked
    ∷ leave (upon («V» is 1 ∷ X is 7 ∷ Y is 3 ∷ [])) (display_bytes (0 ∷ [])) (register Y) gives 4 not 3
    ∷ leave (upon («V» is 1 ∷ X is 7 ∷ Y is 3 ∷ [])) (display_bytes (0 ∷ [])) (register X) gives 7 not 8
    ∷ leave (upon («V» is 1 ∷ X is 7 ∷ Y is 15 ∷ [])) (display_bytes (0 ∷ [])) (register Y) gives 16 not 0
    ∷ leave (upon («V» is 1 ∷ X is 7 ∷ Y is 16 ∷ [])) (display_bytes (0 ∷ [])) (register Y) gives 0 not 17
    ∷ leave (upon («V» is 1 ∷ X is 7 ∷ Y is 16 ∷ [])) (display_bytes (0 ∷ [])) (register X) gives 8 not 7
    ∷ leave (upon («V» is 1 ∷ X is 100 ∷ Y is 16 ∷ [])) (display_bytes (0 ∷ [])) (register X) gives 0 not 101
    ∷ []

unfoldable pub refusals_and_runs : List (Observation Behaviour)
refusals_and_runs =
    -- a chip that refuses everything
    answer (upon []) [] START gives nothing not 2
    -- memories of another length let pass
    ∷ answer (lent 1716 1717 (upon [])) [] START gives 1 not nothing
    ∷ answer (lent 1717 1718 (upon [])) [] START gives 1 not nothing
    -- records that are not allowed let pass
    ∷ answer (upon (H is 5 ∷ [])) [] START gives 2 not nothing
    ∷ answer (upon (X is 101 ∷ [])) [] START gives 2 not nothing
    ∷ answer (upon (Y is 17 ∷ [])) [] START gives 2 not nothing
    ∷ answer (upon (GS0 is 64 ∷ [])) [] START gives 2 not nothing
    ∷ answer (with_pins 4 (upon [])) [] START gives 2 not nothing
    -- events that are not listed let pass, and listed ones refused
    ∷ answer (upon []) [] 261 gives 3 not nothing
    ∷ answer (upon []) [] 511 gives 3 not nothing
    ∷ answer (upon []) [] 768 gives 3 not nothing
    ∷ answer (upon []) [] 65535 gives 3 not nothing
    ∷ answer (upon []) [] RESET gives nothing not 3
    ∷ answer (upon []) [] (sensor 0) gives nothing not 3
    ∷ answer (upon []) [] (sensor 255) gives nothing not 3
    -- the last number but one refused, and the last one wrapped
    ∷ answer (counting (2 ^ 64 - 2) (upon [])) [] START gives nothing not 4
    ∷ answer (counting (2 ^ 64 - 1) (upon [])) [] START gives 4 not nothing
    -- another order: 2 before 1, 3 before 1, 3 before 2, 4 before 2, 4 before 3
    ∷ answer (lent 1716 1717 (upon (X is 101 ∷ []))) [] START gives 1 not 2
    ∷ answer (lent 1716 1717 (upon [])) [] 261 gives 1 not 3
    ∷ answer (upon (X is 101 ∷ [])) [] 261 gives 2 not 3
    ∷ answer (counting (2 ^ 64 - 1) (upon (X is 101 ∷ []))) [] START gives 2 not 4
    ∷ answer (counting (2 ^ 64 - 1) (upon [])) [] 261 gives 3 not 4
    -- a refusal that counts, and one that clears the count
    ∷ leave (upon []) (261 ∷ []) count gives 0 not 1
    ∷ leave (counting (2 ^ 64 - 1) (upon [])) (START ∷ []) count gives 2 ^ 64 - 1 not 0
    -- a run of the first event only
    ∷ run_done (upon []) (display_bytes (0xA7 ∷ [])) gives 4 not 1
    ∷ run_leaves (upon []) (display_bytes (0xA7 ∷ [])) (cell 0 0) gives 0xA7 not 0
    -- a run that goes on after a refused event, counts it as done, does not say why it stopped, or undoes what came before
    ∷ run_leaves (upon []) (START ∷ 261 ∷ STOP ∷ []) count gives 1 not 2
    ∷ run_done (upon []) (START ∷ 261 ∷ STOP ∷ []) gives 1 not 2
    ∷ run_refusal (upon []) (START ∷ 261 ∷ STOP ∷ []) gives 3 not 0
    ∷ run_leaves (upon []) (START ∷ 261 ∷ STOP ∷ []) count gives 1 not 0
    -- 1 and 2 not tested where there are no events
    ∷ run_refusal (lent 1717 1716 (upon [])) [] gives 1 not 0
    ∷ run_refusal (upon (X is 101 ∷ [])) [] gives 2 not 0
    -- not tested at entry where there are some, so that an event is done, and an event looked at before them
    ∷ run_refusal (lent 1716 1717 (upon [])) (START ∷ []) gives 1 not 0
    ∷ run_refusal (upon (X is 101 ∷ [])) (START ∷ []) gives 2 not 0
    ∷ run_leaves (lent 1716 1717 (upon [])) (START ∷ []) count gives 0 not 1
    ∷ run_leaves (upon (X is 101 ∷ [])) (START ∷ []) count gives 0 not 1
    ∷ run_refusal (lent 1716 1717 (upon [])) (261 ∷ []) gives 1 not 3
    ∷ run_refusal (upon (X is 101 ∷ [])) (261 ∷ []) gives 2 not 3
    -- 4 at the wrong event
    ∷ run_done (counting (2 ^ 64 - 2) (upon [])) (START ∷ STOP ∷ []) gives 1 not 0
    ∷ run_refusal (counting (2 ^ 64 - 2) (upon [])) (START ∷ STOP ∷ []) gives 4 not 0
    ∷ []

-- all of them
unfoldable pub chip_rows : List (Observation Behaviour)
chip_rows = bus_events ++ command_bytes ++ command_answers ++ display_data ++ pixel_counts ++ refusals_and_runs
