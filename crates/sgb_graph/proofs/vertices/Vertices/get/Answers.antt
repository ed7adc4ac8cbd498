use Rattle.std.proofs.Common.{rules, arith, length}
use Rattle.std.proofs.lemmas.Option.{slice_get_read}
use Rattle.sgb_graph.specs.inner.KeptVertices.{KeptVertices}
use Rattle.sgb_graph.proofs.KeptVertices.{have_values, kept_at, length-firsts, length-kept}
use Rattle.sgb_graph.proofs.vertices.Vertices.get.Goals as goal

pub index-requires : goal.index-requires
index-requires c = search (rules, length-kept)

pub index-requires-2 : goal.index-requires-2
index-requires-2 c = search (rules, length-firsts)

pub get-requires : goal.get-requires
get-requires c =
    have_values (length c.self.inside.names.items) c.args.v c.self.inside.fields c.self.invariant.columns
    (omega (arith, c.requires, length-kept c.self.inside.names.items c.self.inside.firsts.items c.self.inside.fields c.args.self.now c.self.invariant c.self.view_is))

pub returns : goal.returns
returns c = search (rules, length-kept, length-firsts, slice_get_read, KeptVertices, kept_at)
