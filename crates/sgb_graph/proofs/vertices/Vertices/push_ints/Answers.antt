use Rattle.std.proofs.lemmas.Int.{to_z-of_z}
use mir.Syntax.{w64}
use mir.Val.{SFits}
use Rattle.std.proofs.Common.{rules, ◌≡◌, [], ◌∷◌, ◌++◌, ap, sym, refl, ◌∙◌}
use Rattle.sgb_graph.specs.Parts.{vertex_with_ints}
use Rattle.sgb_graph.specs.inner.KeptVertices.{KeptVertices, field_kinds, ints_alone, kinds_of_vertices}
use Rattle.sgb_graph.proofs.KeptVertices.{AreMore, still_kept, vertex_pushed}
use Rattle.sgb_graph.proofs.vertices.Vertices.push_ints.Goals as goal

abbrev alone : (c : goal.After-put-2) → field_kinds c.self.inside.fields ≡ ints_alone
alone c = ap kinds_of_vertices c.self.view_is ∙ c.requires.kinds

abbrev pushed : (c : goal.After-put-2) → AreMore c.self.inside.names.items c.self.inside.firsts.items c.self.inside.fields c.put.new.values.items c.put-2.new.values.items c.push_ints.new.self (vertex_with_ints c.args.name c.args.arcs c.args.x c.args.y c.args.z)
pushed c =
    let x_fits : SFits w64 c.args.x = c.ranges.x in
    let y_fits : SFits w64 c.args.y = c.ranges.y in
    let z_fits : SFits w64 c.args.z = c.ranges.z in
    (vertex_pushed c.self.inside.names.items c.reserve-2.new.self.items c.put.new.values.items c.self.inside.firsts.items c.reserve-3.new.self.items c.put-2.new.values.items
    c.keep_number.result c.self.inside.fields c.reserve.new.self c.push_ints.new.self (vertex_with_ints c.args.name c.args.arcs c.args.x c.args.y c.args.z) c.self.invariant c.reserve-2.ensures.items c.put.ensures c.reserve-3.ensures.items c.put-2.ensures
    c.reserve.ensures.kinds c.reserve.ensures.columns (c.push_ints.ensures.kinds ∙ sym (c.reserve.ensures.kinds ∙ alone c)) (λ n are. simp to_z-of_z at (c.push_ints.ensures.values n are)) refl c.keep_number.ensures)

pub invariant_of-self : goal.invariant_of-self
invariant_of-self c = search (rules, still_kept)

pub invariant_of-self-2 : goal.invariant_of-self-2
invariant_of-self-2 c = (pushed c).whole

pub returns-clause-ok : goal.returns-clause-ok
returns-clause-ok c = (pushed c).same ∙ ap (λ (d : KeptVertices). record d { items = d.items ++ (vertex_with_ints c.args.name c.args.arcs c.args.x c.args.y c.args.z) ∷ [] }) c.self.view_is
