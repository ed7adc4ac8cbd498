use Rattle.std.proofs.Common.{◌≡◌, ◌∙◌, ℕ, length, sym, ap}
use Rattle.sgb_graph.specs.Graphs.{chain_of}
use Rattle.sgb_ops.specs.inner.Complement.{has_arc}
use Rattle.sgb_ops.proofs.CopiedArcs.{all_among, among_tips, is_among, tip_within}
use Rattle.sgb_ops.proofs.complements.put_tips.Goals as goal

pub returns : goal.returns
returns c =
    let g = c.args.graph.now in
    let chain = chain_of g c.args.u in
    let n = length g.vertices in
    let same : (w : ℕ) → is_among w c.put_in_order.new.tips.items ≡ has_arc g c.args.u w = λ w. c.put_in_order.ensures.same w ∙ (ap (is_among w) c.in_ok-take_tips.ensures.ok ∙ among_tips w chain) in
    record {
      rise = c.put_in_order.ensures.rise;
      arcs = same;
      within = all_among n c.put_in_order.new.tips.items (λ w h. tip_within n w chain (c.requires.tips c.args.u c.requires.vertex) (sym (same w) ∙ h));
      memory = tt;
    }
