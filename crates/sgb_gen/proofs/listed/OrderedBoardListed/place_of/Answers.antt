use Rattle.std.proofs.Common.{◌∙◌, ◌≡◌, List, ℕ, Some, ap, sym, subst}
use Rattle.std.specs.List.{Contains, slice_get}
use Rattle.sgb_vec.specs.Boxes.{box}
use Rattle.sgb_vec.proofs.BoxPlaces.{IsBelow-from_Contains}
use Rattle.sgb_gen.specs.Boards.{board_vector_graph}
use Rattle.sgb_gen.proofs.ListedGraphs.{of_board, place_is_vertex}
use Rattle.sgb_gen.proofs.listed.OrderedBoardListed.place_of.Goals as goal

pub place_of-requires : goal.place_of-requires
place_of-requires c = IsBelow-from_Contains c.family.result.now c.args.x.now (subst (λ (vs : List (List ℕ)). Contains vs c.args.x.now) (sym c.family.ensures.members) c.requires)

pub returns : goal.returns
returns c =
    let b = c.args.self.now in
    let there : slice_get (box b.sizes) c.place_of.result ≡ Some c.args.x.now = ap (λ vs. slice_get vs c.place_of.result) (sym c.family.ensures.members) ∙ c.place_of.ensures in
    place_is_vertex (board_vector_graph b) (of_board b) c.place_of.result c.args.x.now there
