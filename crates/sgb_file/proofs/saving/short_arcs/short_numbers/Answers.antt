use Rattle.sgb_file.proofs.saving.short_arcs.short_numbers.Goals as goal

pub returns-in_err-tip-clause-short : goal.returns-in_err-tip-clause-short
returns-in_err-tip-clause-short c = rw c.from_residual.ensures tt

pub returns-in_err-tip-clause-texts : goal.returns-in_err-tip-clause-texts
returns-in_err-tip-clause-texts c = rw c.from_residual.ensures tt

pub returns-in_err-next-clause-short : goal.returns-in_err-next-clause-short
returns-in_err-next-clause-short c = rw c.from_residual-in_err-next.ensures tt

pub returns-in_err-next-clause-texts : goal.returns-in_err-next-clause-texts
returns-in_err-next-clause-texts c = rw c.from_residual-in_err-next.ensures tt

pub returns-in_err-len-clause-short : goal.returns-in_err-len-clause-short
returns-in_err-len-clause-short c = rw c.from_residual-in_err-len.ensures tt

pub returns-in_err-len-clause-texts : goal.returns-in_err-len-clause-texts
returns-in_err-len-clause-texts c = rw c.from_residual-in_err-len.ensures tt
