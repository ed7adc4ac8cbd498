use Rattle.std.proofs.Common.{refl, arith}
use Rattle.sgb_gen.specs.Generators.{vector_graph_of}
use Rattle.sgb_gen.proofs.VectorVertices.{vertices_are_members}
use Rattle.sgb_arrays.proofs.run_names.names_len_of_run.Goals as goal

pub visit-requires : goal.visit-requires
visit-requires c =
    let graph = vector_graph_of c.args.local.now in
    λ k. ((refl, tt), omega (arith, c.requires, vertices_are_members graph graph.vectors refl))
