use Rattle.std.proofs.Common.{refl, arith}
use Rattle.sgb_graph.specs.Columns.{util_seen}
use Rattle.sgb_file.proofs.FieldTexts.{three_texts}
use Rattle.sgb_file.proofs.saving.short_vertices.short_numbers.Goals as goal

pub returns-clause-texts : goal.returns-clause-texts
returns-clause-texts c =
    let texts =
    three_texts util_seen c.args.vertex.util c.index-fields-3.result c.index-fields-4.result c.index-fields-5.result _ _ _ (omega arith) c.if-any_used.ensures
    c.index-fields-3.is c.index-fields-4.is c.index-fields-5.is c.in_ok-x.ensures.texts c.in_ok-y.ensures.texts c.in_ok-z.ensures.texts in
    rw (texts, c.in_ok-first.ensures.0) refl

pub returns-in_err-first-clause-short : goal.returns-in_err-first-clause-short
returns-in_err-first-clause-short c = rw c.from_residual.ensures tt

pub returns-in_err-first-clause-texts : goal.returns-in_err-first-clause-texts
returns-in_err-first-clause-texts c = rw c.from_residual.ensures tt

pub returns-in_err-x-clause-short : goal.returns-in_err-x-clause-short
returns-in_err-x-clause-short c = rw c.from_residual-in_err-x.ensures tt

pub returns-in_err-x-clause-texts : goal.returns-in_err-x-clause-texts
returns-in_err-x-clause-texts c = rw c.from_residual-in_err-x.ensures tt

pub returns-in_err-y-clause-short : goal.returns-in_err-y-clause-short
returns-in_err-y-clause-short c = rw c.from_residual-in_err-y.ensures tt

pub returns-in_err-y-clause-texts : goal.returns-in_err-y-clause-texts
returns-in_err-y-clause-texts c = rw c.from_residual-in_err-y.ensures tt

pub returns-in_err-z-clause-short : goal.returns-in_err-z-clause-short
returns-in_err-z-clause-short c = rw c.from_residual-in_err-z.ensures tt

pub returns-in_err-z-clause-texts : goal.returns-in_err-z-clause-texts
returns-in_err-z-clause-texts c = rw c.from_residual-in_err-z.ensures tt
