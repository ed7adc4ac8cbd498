use Rattle.sgb_vec.proofs.Common.{rules, to_z-of_z, w64}
use Rattle.sgb_graph.specs.declared.fields.Util.TheVariants.{Int, Vertex as VertexField, Str, Chain}
use Rattle.sgb_graph.proofs.ColumnValues.{slice_get-unused}
use Rattle.sgb_graph.proofs.Lists.{slice_get-mapped}
use Rattle.sgb_graph.proofs.columns.Column.get.Goals as goal

pub returns-in-Unused : goal.returns-in-Unused
returns-in-Unused c n inside many = slice_get-unused n c.args.k c.args.self.now c.in-Unused.is inside

pub returns-in-Ints : goal.returns-in-Ints
returns-in-Ints c n inside many =
    rw (c.in-Ints.is, to_z-of_z w64 c.index.result.now (search rules))
    (slice_get-mapped (λ i. Int i) c.in-Ints.numbers.items c.args.k c.index.result.now (rw c.in-Ints.is at c.requires) c.index.ensures)

pub returns-in-Vertices : goal.returns-in-Vertices
returns-in-Vertices c n inside many = rw c.in-Vertices.is (slice_get-mapped (λ value. VertexField value) c.in-Vertices.vertices.items c.args.k c.index-in-Vertices.result.now (rw c.in-Vertices.is at c.requires) c.index-in-Vertices.ensures)

pub returns-in-Texts : goal.returns-in-Texts
returns-in-Texts c n inside many = rw c.in-Texts.is (slice_get-mapped (λ value. Str value) c.in-Texts.texts.items c.args.k c.index-in-Texts.result.now (rw c.in-Texts.is at c.requires) c.index-in-Texts.ensures)

pub returns-in-Chains : goal.returns-in-Chains
returns-in-Chains c n inside many = rw c.in-Chains.is (slice_get-mapped (λ value. Chain value) c.in-Chains.chains.items c.args.k c.index-in-Chains.result.now (rw c.in-Chains.is at c.requires) c.index-in-Chains.ensures)
