use Rattle.sgb_vec.proofs.Common.{rules, ap, ◌∙◌, arith, err_from_is_err_and}
use Rattle.sgb_file.proofs.Sections.{next_arc, next_stops, arcs_read}
use Rattle.sgb_file.proofs.reading.sections.read_arcs.Goals as goal

pub returns-in_err-read_arc-clause-found : goal.returns-in_err-read_arc-clause-found
returns-in_err-read_arc-clause-found c =
    let p = err_from_is_err_and c.from_residual.result c.from_residual.ensures.1 in
    let count = ap (λ h. h.counts.arcs) c.head-inside.view_is ∙ ap (λ h. h.counts.arcs) c.head.view_is in
    rw (p.1, p.2) (next_stops _ _ _ _ _ _ _ _ _ (omega (arith, count, c.loop-k-test.true)) c.loop-k.invariant.0 c.in_err-read_arc.ensures.err)

pub loop-k-preserved : goal.loop-k-preserved
loop-k-preserved c = search (rules, next_arc)

pub returns-clause-found : goal.returns-clause-found
returns-clause-found c = search (rules, arcs_read)
