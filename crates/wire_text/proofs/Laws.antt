-- What is promised of the text of samples, in one place: read this file first, then specs/Capture.antt. The work stands in the files beside it.
use mathlib.Core.Bool.{false, not}
use mathlib.Core.List.{List, [], ◌∷◌, ◌++◌}
use mathlib.Core.Path.{◌≡◌, refl, ap, ◌∙◌}
use Prim.Native.Nat.{ℕ, ◌≤◌}
use native.Mathlib.Omega.{arith}
use lib.ListN.{length}
use Rattle.print.specs.Printed.{top}
use Rattle.wire_samples.specs.Sample.{at_start}
use Rattle.wire_samples.specs.Feed.{after_all, are_samples}
use Rattle.wire_traffic.proofs.Ranges.{start-in-ranges}
use Rattle.wire_text.specs.declared.Reading.{Reading}
use Rattle.wire_text.specs.Capture.{samples_in, capture_of}
use Rattle.wire_text.specs.Parts.{start_of, is_over, text_in_parts, after_parts, all_parts}
use Rattle.wire_text.proofs.Samples.{no_more, bad-then}
use Rattle.wire_text.proofs.Cuts.{over-refused, start-whole, start-wires, start-over, text-joined, after-joined-parts}
-- a part of n bytes gives 4 · n + 41 bytes of text at most, for wires and pins that a machine holds; every part leaves such wires
pub use Rattle.wire_text.proofs.Bounds.{part-bound}
pub use Rattle.wire_text.proofs.Cuts.{part-in-ranges}
-- a part may be cut anywhere
pub use Rattle.wire_text.proofs.Cuts.{cut-anywhere}
-- the byte that is told as no sample is the first above 3
pub use Rattle.wire_text.proofs.Samples.{first_above}

-- whatever parts the bytes come in, as many bytes as a machine word counts, their texts one after the other are the capture of all bytes; there is
-- one part or more, since the `pins` line comes with the first
pub in_parts :
    (pins : ℕ) (p : List ℕ) (ps : List (List ℕ)) → length (all_parts (p ∷ ps)) ≤ top
    → text_in_parts (start_of pins) (p ∷ ps) ≡ capture_of pins (all_parts (p ∷ ps))
in_parts pins p ps h =
    text-joined (start_of pins) start-in-ranges p ps ∙ start-whole pins (all_parts (p ∷ ps)) (omega (arith, no_more (all_parts (p ∷ ps))))

-- and the wires are those after all samples: so the unclear ones are counted over all of them
pub wires-in-parts : (pins : ℕ) (ps : List (List ℕ)) → (after_parts (start_of pins) ps).wires ≡ after_all at_start (samples_in (all_parts ps))
unfolding after_all samples_in
wires-in-parts pins [] = refl
wires-in-parts pins (p ∷ ps) =
    ap (λ (r : Reading). r.wires) (after-joined-parts (start_of pins) start-in-ranges p ps) ∙ start-wires pins (all_parts (p ∷ ps))

-- nothing more is told exactly where a byte has come that is no sample
pub over-in-parts : (pins : ℕ) (ps : List (List ℕ)) → is_over (after_parts (start_of pins) ps) ≡ not (are_samples (all_parts ps))
unfolding are_samples
over-in-parts pins [] = over-refused (start_of pins) start-in-ranges
over-in-parts pins (p ∷ ps) = ap is_over (after-joined-parts (start_of pins) start-in-ranges p ps) ∙ start-over pins (all_parts (p ∷ ps))

-- and then no byte that follows changes the capture
pub rest-untold : (pins : ℕ) (bs rest : List ℕ) → are_samples bs ≡ false → capture_of pins (bs ++ rest) ≡ capture_of pins bs
unfolding capture_of
rest-untold pins bs rest bad = let both = bad-then bs rest bad in rw (both.0, both.1, bad)
