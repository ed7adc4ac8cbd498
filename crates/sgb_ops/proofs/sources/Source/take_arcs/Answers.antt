use Rattle.std.proofs.Common.{◌≡◌, ◌<◌, ◌∙◌, All, map, length, ap, subst, sym}
use Rattle.sgb_graph.specs.Graphs.{GraphData}
use Rattle.sgb_graph.specs.Made.{graph_described}
use Rattle.sgb_gen.specs.Generators.{described}
use Rattle.sgb_taken.specs.Taken.{taken}
use Rattle.sgb_ops.specs.inner.Sources.{bare, graph_kept}
use Rattle.sgb_ops.proofs.BareArcs.{arcs_read, bare_tips, bare_twice}
use Rattle.sgb_taken.proofs.TakenTips.{TipBelow}
use Rattle.sgb_ops.proofs.ListedEvents.{listed_tips}
use Rattle.sgb_ops.proofs.sources.Source.take_arcs.Goals as goal

pub returns-in_ok-push_links_of-in-Listed : goal.returns-in_ok-push_links_of-in-Listed
returns-in_ok-push_links_of-in-Listed c =
    let g = graph_described (described c.in-Listed.lists.now) in
    let same : g ≡ c.args.self.now = ap graph_kept (sym c.in-Listed.is) ∙ c.self.view_is in
    let below = subst (λ (h : GraphData). c.args.v < length h.vertices) (sym same) c.requires.vertex in
    let links = taken c.args.directed g c.args.v in
    let read =
    arcs_read c.args.v links c.put_listed.new.events.items c.deref.result.now c.clear.new.self.items c.push_links_of.new.arcs.items
    c.in_ok-put_listed-in-Listed.ensures.ok c.deref.ensures.value c.clear.ensures.items c.in_ok-push_links_of-in-Listed.ensures.ok in
    record {
      ok = subst (λ (h : GraphData). map bare c.push_links_of.new.arcs.items ≡ map bare (taken c.args.directed h c.args.v)) same (ap (map bare) read ∙ bare_twice links);
      tips = subst (λ (h : GraphData). All (TipBelow (length h.vertices)) c.push_links_of.new.arcs.items) same
          (subst (All (TipBelow (length g.vertices))) (sym read) (bare_tips (length g.vertices) links (listed_tips c.args.directed g c.args.v c.put_listed.ensures.tips below)));
      memory = tt;
    }
