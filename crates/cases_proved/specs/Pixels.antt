-- Wrong chips, in how they keep the pixels by value (document 02, W8): rows of the table of wrong chips.
use Rattle.std.specs.Prelude.{List, [], ◌∷◌, ◌++◌, ◌-◌, ◌^◌}
use Rattle.cases_proved.specs.Cited.{DO, MX, Y}
use Rattle.cases_proved.specs.Behaviour.{Behaviour, pixels, count, cell, leave, answer, run_leaves, run_done, run_refusal}
use Rattle.cases_proved.specs.Behaviour.{START, RESET, nothing, acknowledged, command_taken, commands, display_bytes}
use Rattle.cases_proved.specs.Observed.{Observation, ◌gives◌not◌}
use Rattle.cases_proved.specs.Start.{◌is◌, upon, counting, having, holding}

unfoldable pub pixel_counts : List (Observation Behaviour)
pixel_counts =
    -- nothing mended; E4h has a pixel of each value, 15h three of value 1
    leave (upon []) (display_bytes (0xE4 ∷ [])) (pixels 3) gives 1 not 0
    ∷ leave (upon []) (display_bytes (0xE4 ∷ [])) (pixels 0) gives 6764 not 6767
    -- the values 1 and 2 exchanged
    ∷ leave (upon []) (display_bytes (0x15 ∷ [])) (pixels 1) gives 3 not 0
    -- the old byte not taken off
    ∷ leave (holding 0 0xFF (having 6763 0 0 4 (upon []))) (display_bytes (0 ∷ [])) (pixels 3) gives 0 not 4
    -- the byte as it is sent, not as it is stored; the place as X says, without the mirror
    ∷ leave (upon (DO is 1 ∷ [])) (display_bytes (0x01 ∷ [])) (pixels 2) gives 1 not 0
    ∷ leave (holding 100 0xFF (having 6763 0 0 4 (upon (MX is 1 ∷ [])))) (display_bytes (0 ∷ [])) (pixels 3) gives 0 not 4
    -- bits 6 and 7 of bank 16 counted: of the byte that comes, and of the byte that stood there; left out in another bank
    ∷ leave (upon (Y is 16 ∷ [])) (display_bytes (0xFF ∷ [])) (pixels 3) gives 3 not 4
    ∷ leave (holding 1616 0xC0 (having 6766 0 0 1 (upon (Y is 16 ∷ [])))) (display_bytes (0 ∷ [])) (pixels 3) gives 1 not 0
    ∷ answer (holding 1616 0xC0 (upon (Y is 16 ∷ []))) (display_bytes []) 0 gives acknowledged not 16
    ∷ leave (upon (Y is 15 ∷ [])) (display_bytes (0xFF ∷ [])) (pixels 3) gives 4 not 3
    -- counts cleared by the reset pulse
    ∷ leave (upon []) (display_bytes (0xFF ∷ []) ++ RESET ∷ []) (pixels 3) gives 4 not 0
    ∷ leave (upon []) (display_bytes (0xFF ∷ []) ++ RESET ∷ []) (pixels 0) gives 6763 not 6767
    -- mended where nothing was stored: a byte while idle, an address, a control byte, a command, a byte that 4 refuses, one that 16 refuses
    ∷ leave (upon []) (0xFF ∷ []) (pixels 3) gives 0 not 4
    ∷ leave (upon []) (START ∷ 0x78 ∷ []) (pixels 1) gives 0 not 1
    ∷ leave (upon []) (START ∷ 0x78 ∷ 0x7F ∷ []) (pixels 3) gives 0 not 3
    ∷ leave (upon []) (commands (0xFF ∷ [])) (pixels 3) gives 0 not 4
    ∷ leave (counting (2 ^ 64 - 4) (upon [])) (display_bytes (0xFF ∷ [])) (pixels 3) gives 0 not 4
    ∷ leave (having 3 0 0 0 (upon [])) (display_bytes (0xFF ∷ [])) (pixels 3) gives 0 not 4
    -- ---- 16
    -- a count below 0, and one above all pixels, let pass; the last that fit, refused
    ∷ answer (having 3 0 0 0 (upon [])) (display_bytes []) 0xFF gives 16 not acknowledged
    ∷ answer (having 4 0 0 0 (upon [])) (display_bytes []) 0xFF gives acknowledged not 16
    ∷ answer (having 6767 0 0 6764 (upon [])) (display_bytes []) 0xFF gives 16 not acknowledged
    ∷ answer (having 6767 0 0 6763 (upon [])) (display_bytes []) 0xFF gives acknowledged not 16
    -- judged pixel by pixel: one of value 1 leaves and one joins, of value 0 three and three
    ∷ answer (holding 0 0x01 (having 6767 0 0 0 (upon []))) (display_bytes []) 0x04 gives acknowledged not 16
    ∷ leave (holding 0 0x01 (having 6767 0 0 0 (upon []))) (display_bytes (0x04 ∷ [])) (pixels 1) gives 0 not 1
    -- by the sum of the counts: they are not all pixels here, and each still moves by what left and what joined
    ∷ answer (having 100 100 100 100 (upon [])) (display_bytes []) 0xFF gives acknowledged not 16
    ∷ leave (having 100 100 100 100 (upon [])) (display_bytes (0xFF ∷ [])) (pixels 0) gives 96 not 6763
    -- for events that are no display bytes
    ∷ answer (having 0 0 0 0 (upon [])) [] START gives nothing not 16
    ∷ answer (having 0 0 0 0 (upon [])) (commands []) 0x85 gives command_taken not 16
    ∷ answer (having 0 0 0 0 (upon [])) (START ∷ 0x78 ∷ []) 0x40 gives acknowledged not 16
    -- before 4
    ∷ answer (counting (2 ^ 64 - 4) (having 0 0 0 0 (upon []))) (display_bytes []) 0xFF gives 4 not 16
    -- a byte stored and counted that 16 refuses
    ∷ leave (having 3 0 0 0 (upon [])) (display_bytes (0xFF ∷ [])) (cell 0 0) gives 0 not 0xFF
    ∷ leave (having 3 0 0 0 (upon [])) (display_bytes (0xFF ∷ [])) count gives 3 not 4
    -- a run that goes on after it, counts it as done, does not say why it stopped, or undoes what came before
    ∷ run_done (having 4 0 0 0 (upon [])) (display_bytes (0xFF ∷ 0xFF ∷ [])) gives 4 not 5
    ∷ run_refusal (having 4 0 0 0 (upon [])) (display_bytes (0xFF ∷ 0xFF ∷ [])) gives 16 not 0
    ∷ run_leaves (having 4 0 0 0 (upon [])) (display_bytes (0xFF ∷ 0xFF ∷ [])) (cell 0 0) gives 0xFF not 0
    -- ---- a count above all pixels let pass, and all pixels of one value refused
    ∷ answer (having 6768 0 0 0 (upon [])) [] START gives 2 not nothing
    ∷ answer (having 0 0 0 6768 (upon [])) [] START gives 2 not nothing
    ∷ answer (having 0 0 0 6767 (upon [])) [] START gives nothing not 2
    ∷ []
