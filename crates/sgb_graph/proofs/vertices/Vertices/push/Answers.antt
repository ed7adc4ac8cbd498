use Rattle.std.proofs.Common.{rules, [], ◌∷◌, ◌++◌, ap, sym, ◌∙◌, length}
use Rattle.std.proofs.lemmas.List.{length-map}
use Rattle.sgb_graph.specs.inner.Columns.{util_kind}
use Rattle.sgb_graph.specs.inner.KeptVertices.{KeptVertices}
use Rattle.sgb_graph.proofs.KeptVertices.{AreMore, still_kept, vertex_pushed}
use Rattle.sgb_graph.proofs.vertices.Vertices.push.Goals as goal

abbrev pushed : (c : goal.After-put-2) → AreMore c.self.inside.names.items c.self.inside.firsts.items c.self.inside.fields c.put.new.values.items c.put-2.new.values.items c.push.new.self c.args.vertex
pushed c =
    (vertex_pushed c.self.inside.names.items c.reserve-2.new.self.items c.put.new.values.items c.self.inside.firsts.items c.reserve-3.new.self.items c.put-2.new.values.items
    c.keep_number.result c.self.inside.fields c.reserve.new.self c.push.new.self c.args.vertex c.self.invariant c.reserve-2.ensures.items c.put.ensures c.reserve-3.ensures.items c.put-2.ensures
    c.reserve.ensures.kinds c.reserve.ensures.columns c.push.ensures.kinds c.push.ensures.values (sym (length-map c.args.vertex.util util_kind) ∙ ap length c.requires.kinds) c.keep_number.ensures)

pub invariant_of-self : goal.invariant_of-self
invariant_of-self c = search (rules, still_kept)

pub invariant_of-self-2 : goal.invariant_of-self-2
invariant_of-self-2 c = (pushed c).whole

pub returns-clause-ok : goal.returns-clause-ok
returns-clause-ok c = (pushed c).same ∙ ap (λ (d : KeptVertices). record d { items = d.items ++ c.args.vertex ∷ [] }) c.self.view_is
