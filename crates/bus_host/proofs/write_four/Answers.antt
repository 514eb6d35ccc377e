use Rattle.bus_host.proofs.write_four.Goals as goal

pub returns : goal.returns
returns c =
    record { record0_after = c.write_record.ensures; record1_after = c.write_record-2.ensures; record2_after = c.write_record-3.ensures; record3_after = c.write_record-4.ensures }
