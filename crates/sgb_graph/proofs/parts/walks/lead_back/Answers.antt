use Rattle.sgb_vec.proofs.Common.{◌&&◌, false, length, ap, sym, ◌∙◌, arith, option_map_or}
use Rattle.sgb_graph.specs.Sound.{chain_fits, is_vertex}
use Rattle.sgb_graph.specs.inner.Walks.{leads_back}
use Rattle.sgb_graph.specs.declared.fields.ArcRec.{ArcRec}
use Rattle.sgb_graph.proofs.MarkedWays.{each_below, not_each_below}
use Rattle.sgb_graph.proofs.parts.walks.lead_back.Goals as goal

pub returns-then-not-leads_back : goal.returns-then-not-leads_back
returns-then-not-leads_back c =
    let back = λ (r : ArcRec). chain_fits c.loop-k.k r.next && is_vertex r.tip in
    let fails = ap (λ o. option_map_or back o false) c.get-arc.ensures ∙ (sym c.leads_back.ensures ∙ c.if-not-leads_back.true) in
    sym (not_each_below (leads_back c.args.records.now.items) (length c.args.records.now.items) c.loop-k.k (omega (arith, c.loop-k-test.true, c.len-k-end.ensures.count)) fails)

pub returns : goal.returns
returns c = sym (each_below (leads_back c.args.records.now.items) (length c.args.records.now.items) (λ j below. c.loop-k.invariant j (omega arith)))
