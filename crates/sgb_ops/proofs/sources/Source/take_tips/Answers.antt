use Rattle.std.proofs.Common.{◌≡◌, ◌∙◌, map, ap, subst, sym}
use Rattle.sgb_graph.specs.Graphs.{GraphData, chain_of}
use Rattle.sgb_graph.specs.Made.{graph_described}
use Rattle.sgb_gen.specs.Generators.{described}
use Rattle.sgb_ops.specs.inner.Sources.{graph_kept}
use Rattle.sgb_ops.proofs.BareArcs.{tips_read}
use Rattle.sgb_ops.proofs.sources.Source.take_tips.Goals as goal

pub returns-in_ok-push_tips_of-in-Listed-clause-ok : goal.returns-in_ok-push_tips_of-in-Listed-clause-ok
returns-in_ok-push_tips_of-in-Listed-clause-ok c =
    let g = graph_described (described c.in-Listed.lists.now) in
    subst (λ (h : GraphData). c.push_tips_of.new.tips.items ≡ map (λ l. l.tip) (chain_of h c.args.v)) (ap graph_kept (sym c.in-Listed.is) ∙ c.self.view_is)
    (tips_read c.args.v (chain_of g c.args.v) c.put_listed.new.events.items c.deref.result.now c.clear.new.self.items c.push_tips_of.new.tips.items
    c.in_ok-put_listed-in-Listed.ensures.ok c.deref.ensures.value c.clear.ensures.items c.in_ok-push_tips_of-in-Listed.ensures.ok)
