-- The whole text at a chosen chip, to the byte.
use mathlib.Core.Bool.{true}
use mathlib.Core.List.{◌++◌}
use mathlib.Core.Path.{◌≡◌, refl}
use Rattle.registers.specs.declared.Chip.{Chip}
use Rattle.registers.specs.declared.Phase.TheVariants.{EndlessBytes}
use Rattle.registers.specs.Record.{put, reset_chip, in_phase, with_registers, with_status, with_last_rs, with_pixels}
use Rattle.text.specs.Text.{bytes}
use Rattle.print.specs.Printed.{decimal_of}
use Rattle.capture_trace.specs.Follow.{tally}
use Rattle.chip_text.specs.ChipText.{phase_words, register_lines, record_lines, bus_lines, pixel_lines, chip_text}

-- pins 2; X 100, Y 16 and VOP 127, else as after a reset; amid endless display bytes, a status byte of 25; another number of pixels for each value
abbrev chosen : Chip
chosen =
    with_pixels
    (with_last_rs
    (with_status
    (in_phase (with_registers (reset_chip 2) (put 9 100 (put 10 16 (put 19 127 (reset_chip 2).registers)))) (EndlessBytes true)) 25) true)
    (record { zeros = 6700; ones = 50; twos = 9; threes = 8 })

pub chip-said :
    chip_text chosen 18446744073709551615 (tally 54 4)
    ≡ bytes "h\t0\ndo\t0\npd\t1\nv\t0\nd\t0\ne\t0\nmx\t0\nmy\t0\nps\t0\nx\t100\ny\t16\n"
    ++ bytes "bs\t0\nbsh\t0\ndp\t0\nprs\t0\nhve\t0\ns\t0\ntc\t0\nsm\t0\nvop\t127\n"
    ++ bytes "gr\t0\ngs0\t0\ngs1\t0\ngs2\t0\ngs3\t0\ndof\t1\ndm\t0\nec\t0\noc\t0\n"
    ++ bytes "pins\t2\nstatus\t25\nlast rs\t1\nphase\tendless display bytes\n"
    ++ bytes "count\t18446744073709551615\nacknowledged\t54\nnot acknowledged\t4\n"
    ++ bytes "pixels 0\t6700\npixels 1\t50\npixels 2\t9\npixels 3\t8\n"
unfolding record_lines bus_lines pixel_lines register_lines phase_words decimal_of
chip-said = refl
