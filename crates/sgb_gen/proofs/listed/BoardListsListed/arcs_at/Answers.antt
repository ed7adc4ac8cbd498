use Rattle.sgb_gen.specs.Boards.{board_vector_graph}
use Rattle.sgb_gen.proofs.ListedGraphs.{of_board, tips_put, widths_put}
use Rattle.sgb_gen.proofs.listed.BoardListsListed.arcs_at.Goals as goal

pub returns-clause-tips : goal.returns-clause-tips
returns-clause-tips c =
    let b = c.args.self.now in
    tips_put (board_vector_graph b) (of_board b) c.arcs_at.result c.args.x.now c.arcs_at.new.links.arcs c.requires c.arcs_at.ensures.ok

pub returns-clause-widths : goal.returns-clause-widths
returns-clause-widths c =
    let b = c.args.self.now in
    widths_put (board_vector_graph b) (of_board b) c.arcs_at.result c.args.x.now c.arcs_at.new.links.arcs c.requires c.arcs_at.ensures.ok
