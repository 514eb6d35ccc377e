use Rattle.std.specs.Prelude.{Ok}
use Rattle.capture.specs.declared.End.TheVariants.{BadFirst, Bad, Whole}
use Rattle.capture.specs.Feeding.{meaning}
use Rattle.listing.proofs.CodeWays.{ended, refused-known, refused-by-number, whole-empty}
use Rattle.listing.proofs.refused.Goals as goal

pub returns-in_err-end : goal.returns-in_err-end
returns-in_err-end c = refused-by-number _ _ _ _ _ c.from_residual.ensures.1 c.in_err-end.was

pub returns-in-BadFirst : goal.returns-in-BadFirst
unfolding meaning
returns-in-BadFirst c = refused-known (Ok BadFirst) _ _ _ _ (ended c.in_ok-end.was c.in-BadFirst.is) c.refused_at.ensures

pub returns-in-Bad : goal.returns-in-Bad
unfolding meaning
returns-in-Bad c = refused-known (Ok (Bad _ _)) _ _ _ _ (ended c.in_ok-end.was c.in-Bad.is) c.refused_at-in-Bad.ensures

pub returns-in-Whole : goal.returns-in-Whole
unfolding meaning
returns-in-Whole c = refused-known (Ok (Whole _ _)) _ _ _ _ (ended c.in_ok-end.was c.in-Whole.is) (whole-empty _)
