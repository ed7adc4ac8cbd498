use Rattle.std.proofs.Common.{rules, ap, ◌∙◌}
use Rattle.std.proofs.lemmas.List.{length-map}
use Rattle.sgb_vec.specs.Boxes.{box}
use Rattle.sgb_vec.proofs.BoxPlaces.{length-box}
use Rattle.sgb_graph.specs.Growth.{new_graph}
use Rattle.sgb_gen.specs.Boards.{board_id, moves_of_board}
use Rattle.sgb_gen.proofs.FamilyGraphs.{fields_unused, graph_made, no_room}
use Rattle.sgb_gen.proofs.accepted.boards.Board.graph.Goals as goal

pub returns-in_err-graph : goal.returns-in_err-graph
returns-in_err-graph c = search (rules, length-map, length-box, no_room)

pub put_coordinates-requires-clause-fields : goal.put_coordinates-requires-clause-fields
put_coordinates-requires-clause-fields c = fields_unused (box c.self.inside.family) c.args.self.now.directed c.reserve.new.self c.add_arcs.new.graph _ (c.reserve.ensures.kept ∙ c.in_ok-graph.ensures.ok ∙ ap new_graph c.in_ok-names.ensures.ok) c.in_ok-add_arcs.ensures.ok

pub returns : goal.returns
returns c =
    let b = c.args.self.now in
    graph_made (board_id b) _ b.directed (box b.sizes) (box c.self.inside.family) (moves_of_board b) _ _ _ _ _ (ap (λ d. box d.sizes) c.self.view_is) c.in_ok-names.ensures.ok (c.reserve.ensures.kept ∙ c.in_ok-graph.ensures.ok) c.in_ok-add_arcs.ensures.ok c.in_ok-put_coordinates.ensures.ok c.set_id.ensures c.id.ensures
