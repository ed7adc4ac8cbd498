use Rattle.std.proofs.Common.{◌≡◌, ◌∙◌, ap, length, map, subst, sym, arith}
use Rattle.std.specs.Prelude.{IfOk}
use Rattle.sgb_vec.specs.Names.{name_of_vector}
use Rattle.sgb_gen.specs.Generators.{vector_graph_of, vectors_of}
use Rattle.sgb_gen.proofs.VectorVertices.{named_by_vectors, names_count}
use Rattle.sgb_gen.proofs.local_lists.LocalLists.names.Goals as goal

pub returns-clause-ok : goal.returns-clause-ok
returns-clause-ok c =
    subst (λ ns. IfOk c.names.result (λ names. names ≡ ns))
    (ap (λ l. map name_of_vector (vectors_of l)) c.self.view_is ∙ sym (named_by_vectors (vector_graph_of c.args.self.now)))
    c.names.ensures.ok

pub returns-clause-few : goal.returns-clause-few
returns-clause-few c = omega (arith, names_count (vector_graph_of c.args.self.now), ap (λ l. length (vectors_of l)) c.self.view_is, c.names.ensures.few)
