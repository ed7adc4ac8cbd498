use Rattle.sgb_file.proofs.WrittenPrefixes.{unless_failed}
use Rattle.sgb_levels.specs.Program.{refusal_line}
use Rattle.sgb_levels.proofs.runs.report_usage.Goals as goal

pub returns-clause-line : goal.returns-clause-line
unfolding refusal_line
returns-clause-line g c = unless_failed _ _ _ c.put_all-written.ensures.put
