use Rattle.sgb.proofs.writing.names.NamesAnswerVisit.visit.Goals as goal

pub returns : goal.returns
returns g c = (rw (← c.family.ensures.members) c.write_names.ensures.ended, c.write_names.ensures.certain)
