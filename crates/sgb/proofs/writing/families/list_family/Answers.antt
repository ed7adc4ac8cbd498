use Rattle.sgb.proofs.CertainAnswers.{other_sort}
use Rattle.sgb.proofs.writing.families.list_family.Goals as goal

pub returns-clause-untouched : goal.returns-clause-untouched
returns-clause-untouched g c = c.visit.ensures.3 (other_sort _ c.in_default.not-Board)
