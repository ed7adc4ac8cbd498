use Rattle.sgb_file.proofs.WrittenPrefixes.{unless_failed}
use Rattle.sgb_requests.proofs.faults.report.Goals as goal

pub returns-clause-line : goal.returns-clause-line
returns-clause-line g c = unless_failed _ _ _ c.put_line-written.ensures
