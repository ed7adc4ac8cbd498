use Rattle.sgb.proofs.CutOff.{cut_after, cut_more, exit_cut, exit_write, written_after}
use Rattle.sgb_levels.specs.Lines.{line_of_level}
use Rattle.sgb_levels.proofs.runs.write_line.Goals as goal

pub returns-in_err-write_bytes-clause-written : goal.returns-in_err-write_bytes-clause-written
unfolding line_of_level
returns-in_err-write_bytes-clause-written g c =
    exit_cut _ _ _ _ c.from_residual.ensures.1 (cut_more _ _ _ _ c.in_err-write_bytes.ensures.written)

pub returns-in_err-write_bytes-2-clause-written : goal.returns-in_err-write_bytes-2-clause-written
unfolding line_of_level
returns-in_err-write_bytes-2-clause-written g c =
    exit_cut _ _ _ _ c.from_residual-in_err-write_bytes-2.ensures.1 (cut_after _ _ _ _ _ _ _ c.in_ok-write_bytes.ensures.written.output (cut_more _ _ _ _ c.in_err-write_bytes-2.ensures.written))

pub returns-in_err-write_distance-clause-written : goal.returns-in_err-write_distance-clause-written
unfolding line_of_level
returns-in_err-write_distance-clause-written g c =
    exit_cut _ _ _ _ c.from_residual-in_err-write_distance.ensures.1
    (cut_after _ _ _ _ _ _ _ c.in_ok-write_bytes.ensures.written.output (cut_after _ _ _ _ _ _ _ c.in_ok-write_bytes-2.ensures.written.output (cut_more _ _ _ _ c.in_err-write_distance.ensures.written)))

pub returns-clause-written : goal.returns-clause-written
unfolding line_of_level
returns-clause-written g c =
    written_after _ _ _ _ _ _ _ c.in_ok-write_bytes.ensures.written.output
    (written_after _ _ _ _ _ _ _ c.in_ok-write_bytes-2.ensures.written.output
    (written_after _ _ _ _ _ _ _ c.in_ok-write_distance.ensures.written.output c.write_bytes-3.ensures.written))

pub returns-in_err-write_bytes-clause-fault : goal.returns-in_err-write_bytes-clause-fault
returns-in_err-write_bytes-clause-fault g c = exit_write _ _ c.from_residual.ensures.1 c.in_err-write_bytes.ensures.fault

pub returns-in_err-write_bytes-2-clause-fault : goal.returns-in_err-write_bytes-2-clause-fault
returns-in_err-write_bytes-2-clause-fault g c = exit_write _ _ c.from_residual-in_err-write_bytes-2.ensures.1 c.in_err-write_bytes-2.ensures.fault

pub returns-in_err-write_distance-clause-fault : goal.returns-in_err-write_distance-clause-fault
returns-in_err-write_distance-clause-fault g c = exit_write _ _ c.from_residual-in_err-write_distance.ensures.1 c.in_err-write_distance.ensures.fault
