use Rattle.host.proofs.CodeWays.{place-no-record, place-done}
use Rattle.host.proofs.pcf8820_place.Goals as goal

pub returns-in_default : goal.returns-in_default
returns-in_default c = place-no-record _ _ c.read_record.ensures c.in_default.is _ _

pub returns : goal.returns
returns c =
    place-done _ _ _ c.read_record.ensures c.in-Some.is _ _ _ _ c.place-place.ensures c.place_number.ensures
