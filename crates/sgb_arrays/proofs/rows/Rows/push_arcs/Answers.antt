use Rattle.std.proofs.Common.{◌∙◌, ◌≡◌, ◌++◌, ◌∷◌, [], ap, sym, pos, rules, w64}
use Rattle.std.specs.Prelude.{Some, slice_get}
use Rattle.std.proofs.lemmas.Int.{to_z-of_z}
use Rattle.sgb_gen.specs.LocalLists.{LocalArc}
use Rattle.sgb_gen.specs.VectorGraphs.{vertex_among}
use Rattle.sgb_arrays.proofs.LocalRuns.{one_put}
use Rattle.sgb_arrays.proofs.rows.Rows.push_arcs.Goals as goal

pub loop-i-preserved : goal.loop-i-preserved
loop-i-preserved g c =
    let arcs = c.args.links.now.arcs in
    let arc : LocalArc = record { tip = c.link.inside.tip.now; len = pos c.link.inside.len } in
    let there : slice_get arcs c.loop-i.i ≡ Some arc = c.get-link.ensures ∙ ap Some (sym c.link.view_is) in
    let vectors = (g.L.Listed.graph c.args.listed.now).vectors in
    record {
      tips = one_put (λ a. vertex_among vectors a.tip) arcs c.loop-i.i arc c.loop-i.self.tips.items c.push.new.self.items _ there c.loop-i.invariant.tips
          (c.in_ok-push.ensures.items ∙ ap (λ k. c.loop-i.self.tips.items ++ k ∷ []) c.place_of.ensures);
      lengths = one_put (λ a. a.len) arcs c.loop-i.i arc c.loop-i.self.lengths.items c.push-in-loop-i.new.self.items _ there c.loop-i.invariant.lengths
          (c.in_ok-push-2.ensures.items ∙ ap (λ k. c.loop-i.self.lengths.items ++ k ∷ []) (to_z-of_z w64 c.from.result (search rules) ∙ c.from.ensures));
      starts = c.loop-i.invariant.starts;
    }
