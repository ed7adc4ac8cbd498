use Rattle.sgb_vec.proofs.Common.{◌≡◌, ◌+◌, ◌∷◌, ◌∙◌, ℕ, List, false, drop, filter, get_or, ap, arith, if◌then◌else◌, [], subst, drop_all, drop_more}
use Rattle.sgb_graph.specs.Growth.{AddsEvents}
use Rattle.sgb_graph.proofs.AddedEvents.{up_to-all, up_to-more}
use Rattle.sgb_ops.specs.inner.LineLists.{counts}
use Rattle.sgb_ops.specs.inner.Lines.{events_to_numbers}
use Rattle.sgb_ops.proofs.LineLists.{first_counted}
use Rattle.sgb_ops.proofs.line_graphs.edges.add_edges_to.Goals as goal

pub loop-j-preserved : goal.loop-j-preserved
loop-j-preserved c =
    let i = c.args.i in
    let list = c.args.list.now in
    let k = c.loop-j.j-index in
    let j = get_or list k 0 in
    let test = counts c.args.elsewhere c.args.lines.now i in
    let rest = drop (k + 1) list in
    let next : drop k list ≡ j ∷ rest = drop_more list k 0 (omega arith) in
    let added = subst (λ b. AddsEvents false c.loop-j.built c.add_edge_if.new.built (events_to_numbers i (if b then j ∷ [] else []))) c.counts-wanted.ensures c.in_ok-add_edge_if.ensures.ok in
    up_to-more false c.args.built.now c.loop-j.built c.add_edge_if.new.built _ (events_to_numbers i (filter test rest)) _ _ c.loop-j.invariant
    (ap (λ (js : List ℕ). events_to_numbers i (filter test js)) next ∙ first_counted i j (test j) (filter test rest)) added

pub returns-clause-ok : goal.returns-clause-ok
returns-clause-ok c =
    let events = λ (js : List ℕ). events_to_numbers c.args.i (filter (counts c.args.elsewhere c.args.lines.now c.args.i) js) in
    let list = c.args.list.now in
    let k = c.loop-j.j-index in
    up_to-all false c.args.built.now c.loop-j.built (events (drop k list)) (events list) c.loop-j.invariant (ap events (drop_all k list (omega arith)))
