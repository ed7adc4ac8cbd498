use Rattle.sgb_vec.proofs.Common.{Option, Err, subst, sym, rules, err_from_is_err_and}
use Rattle.sgb_text.proofs.Findings.{Found}
use Rattle.sgb_graph.specs.declared.fields.Kind.TheVariants.{Z}
use Rattle.sgb_graph.specs.declared.fields.ArcRec.{ArcRec}
use Rattle.sgb_file.specs.inner.Found.{IsFoundBy}
use Rattle.sgb_file.specs.inner.LinesLeft.{text_left}
use Rattle.sgb_file.proofs.FoundSteps.{arc_steps, two_kinds}
use Rattle.sgb_file.proofs.reading.records.read_any_arc.Goals as goal

pub returns-in_err-arc-clause-err : goal.returns-in_err-arc-clause-err
returns-in_err-arc-clause-err c =
    let p = err_from_is_err_and c.from_residual.result c.from_residual.ensures.1 in
    let steps = arc_steps c.args.head.now _ _ (text_left c.args.lines.now) (two_kinds c.args.head.now.kinds Z c.in_err-arc.ensures.kinds) in
    rw (p.1, p.2) (subst (λ (o : Option (Found ArcRec)). IsFoundBy {X = ArcRec} o (Err c.in_err-arc.field-0.0) (text_left c.read_arc_fields.new.lines)) (sym steps) c.in_err-arc.ensures.found)

pub returns-clause-ok : goal.returns-clause-ok
returns-clause-ok c = search (rules, arc_steps, text_left, two_kinds)
