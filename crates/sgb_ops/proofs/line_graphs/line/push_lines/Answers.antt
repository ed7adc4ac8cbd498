use Rattle.sgb_vec.proofs.Common.{◌+◌, ◌∷◌, [], drop, get_or, map, ap, arith, drop_all, drop_more}
use Rattle.sgb_ops.specs.inner.Lines.{line_of}
use Rattle.sgb_ops.proofs.PlainLists.{part_more, parts_all}
use Rattle.sgb_ops.proofs.TallyLemmas.{no_arc}
use Rattle.sgb_ops.proofs.line_graphs.line.push_lines.Goals as goal

pub loop-arc-preserved : goal.loop-arc-preserved
loop-arc-preserved c =
    let arcs = c.args.arcs.now in
    let i = c.loop-arc.arc-index in
    let lines = map (line_of c.args.v) in
    part_more c.loop-arc.lines.items _ (line_of c.args.v (get_or arcs i no_arc) ∷ []) (lines (drop (i + 1) arcs)) (lines (drop i arcs)) _ (ap lines (drop_more arcs i no_arc (omega arith))) c.loop-arc.invariant c.in_ok-push.ensures.items

pub returns-clause-ok : goal.returns-clause-ok
returns-clause-ok c = parts_all c.loop-arc.lines.items _ _ (ap (map (line_of c.args.v)) (drop_all c.loop-arc.arc-index c.args.arcs.now (omega arith))) c.loop-arc.invariant
