use Rattle.std.proofs.Common.{◌≡◌, subst}
use Rattle.std.specs.Result.{OnOk}
use Rattle.sgb_gen.specs.Boards.{BoardData, board_vector_graph}
use Rattle.sgb_gen.specs.LocalLists.{list_in}
use Rattle.sgb_gen.proofs.ListedGraphs.{of_board, tips_put, widths_put}
use Rattle.sgb_gen.proofs.listed.OrderedBoardListed.arcs_at.Goals as goal

pub returns-clause-tips : goal.returns-clause-tips
returns-clause-tips c =
    let b = c.args.self.now in
    let put = subst (λ (d : BoardData). OnOk c.arcs_at.result (c.arcs_at.new.links.arcs ≡ list_in (board_vector_graph d) c.args.x.now)) c.self.view_is c.arcs_at.ensures.ok in
    tips_put (board_vector_graph b) (of_board b) c.arcs_at.result c.args.x.now c.arcs_at.new.links.arcs c.requires put

pub returns-clause-widths : goal.returns-clause-widths
returns-clause-widths c =
    let b = c.args.self.now in
    let put = subst (λ (d : BoardData). OnOk c.arcs_at.result (c.arcs_at.new.links.arcs ≡ list_in (board_vector_graph d) c.args.x.now)) c.self.view_is c.arcs_at.ensures.ok in
    widths_put (board_vector_graph b) (of_board b) c.arcs_at.result c.args.x.now c.arcs_at.new.links.arcs c.requires put
