use Rattle.std.proofs.Common.{◌∙◌, ◌≡◌, Some, ap, sym}
use Rattle.std.specs.List.{slice_get}
use Rattle.sgb_vec.specs.Sums.{bounded_sums}
use Rattle.sgb_gen.specs.Subsets.{subsets_vector_graph, subsets_vectors}
use Rattle.sgb_gen.proofs.ListedGraphs.{of_subsets, place_is_vertex}
use Rattle.sgb_gen.proofs.listed.RefSubsetsListed.place_of.Goals as goal

pub returns : goal.returns
returns c =
    let s = c.args.self.now.now in
    let vectors = ap (λ sum. bounded_sums sum.total sum.bounds) c.family.ensures in
    let there : slice_get (subsets_vectors s) c.place_of.result ≡ Some c.args.x.now = ap (λ vs. slice_get vs c.place_of.result) (sym vectors) ∙ c.place_of.ensures in
    place_is_vertex (subsets_vector_graph s) (of_subsets s) c.place_of.result c.args.x.now there
