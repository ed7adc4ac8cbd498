use Rattle.std.proofs.Common.{ap, length, refl, subst, arith}
use Rattle.sgb_vec.specs.Sums.{bounded_sums}
use Rattle.sgb_gen.specs.Generators.{vector_graph_of, vectors_of}
use Rattle.sgb_gen.specs.inner.LocalLists.{AreListsOf}
use Rattle.sgb_gen.proofs.VectorVertices.{vertices_are_members}
use Rattle.sgb_gen.proofs.local_lists.LocalLists.put_vector.Goals as goal

pub put_vector-requires-clause-there : goal.put_vector-requires-clause-there
put_vector-requires-clause-there c =
    let has = subst (AreListsOf c.self.inside.local.now) c.in-Board.is c.self.invariant.1 in
    let l = c.args.self.now in
    omega (arith, c.requires, vertices_are_members (vector_graph_of l) (vectors_of l) refl, ap (λ d. length (vectors_of d)) c.self.view_is, ap length has.1)

pub put_vector-requires-in-Simplex-clause-there : goal.put_vector-requires-in-Simplex-clause-there
put_vector-requires-in-Simplex-clause-there c =
    let has = subst (AreListsOf c.self.inside.local.now) c.in-Simplex.is c.self.invariant.1 in
    let l = c.args.self.now in
    omega (arith, c.requires, vertices_are_members (vector_graph_of l) (vectors_of l) refl, ap (λ d. length (vectors_of d)) c.self.view_is, ap (λ d. length (vectors_of d)) has.0, ap (λ f. length (bounded_sums f.total f.bounds)) c.family.ensures)

pub put_vector-requires-in-Subsets-clause-there : goal.put_vector-requires-in-Subsets-clause-there
put_vector-requires-in-Subsets-clause-there c =
    let has = subst (AreListsOf c.self.inside.local.now) c.in-Subsets.is c.self.invariant.1 in
    let l = c.args.self.now in
    omega (arith, c.requires, vertices_are_members (vector_graph_of l) (vectors_of l) refl, ap (λ d. length (vectors_of d)) c.self.view_is, ap (λ d. length (vectors_of d)) has.0, ap (λ f. length (bounded_sums f.total f.bounds)) c.family-in-Subsets.ensures)
