use mathlib.Core.Path.{ap, ◌∙◌}
use Prim.Native.Nat.{ℕ}
use Rattle.std.specs.Prelude.{Ok}
use Rattle.listing.proofs.CodeWays.{unless-refused, unless-passed}
use Rattle.origin.specs.Call.{origin_call}
use Rattle.origin.proofs.CodeWays.{place-there, shown-told, told-there, place-refused}
use Rattle.origin.proofs.of_pixel.Goals as goal

pub returns-in_err-lengths : goal.returns-in_err-lengths
unfolding origin_call
returns-in_err-lengths c = unless-refused _ _ _ _ c.from_residual.ensures.1 c.in_err-lengths.ensures

pub returns-in_err-place : goal.returns-in_err-place
unfolding origin_call
returns-in_err-place c =
    let args = c.args in
    unless-passed _ c.in_ok-lengths.ensures
    (place-refused args.chip args.memory.now args.writers.now args.row args.column args.out.now _ _ c.from_residual-in_err-place.ensures.1 c.in_err-place.ensures)

pub origin_at-requires : goal.origin_at-requires
origin_at-requires c =
    let args = c.args in
    place-there args.chip args.memory.now args.writers.now args.row args.column _ c.in_ok-lengths.ensures
    (ap (λ (p : ℕ). Ok p) c.from.ensures ∙ c.in_ok-place.ensures)

pub told-requires : goal.told-requires
told-requires c =
    let args = c.args in
    shown-told args.chip args.memory.now args.writers.now args.row args.column _ c.in_ok-lengths.ensures
    (ap (λ (p : ℕ). Ok p) c.from.ensures ∙ c.in_ok-place.ensures) _ c.origin_at.ensures

pub returns : goal.returns
unfolding origin_call
returns c =
    let args = c.args in
    unless-passed _ c.in_ok-lengths.ensures
    (told-there args.chip args.memory.now args.writers.now args.row args.column args.out.now _ _
    (ap (λ (p : ℕ). Ok p) c.from.ensures ∙ c.in_ok-place.ensures) c.origin_at.ensures c.told.ensures)
