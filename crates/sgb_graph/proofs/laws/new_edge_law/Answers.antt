use Rattle.std.proofs.Common.{refl}
use Rattle.sgb_graph.proofs.AddingEdges.{edge_keeps, edge_put}
use Rattle.sgb_graph.proofs.laws.new_edge_law.Goals as goal

pub returns : goal.returns
returns c = record {
  loops = λ g u len all u_in. (edge_put g u u len all u_in u_in).loop refl;
  smaller = λ g u v len all u_in v_in. (edge_put g u v len all u_in v_in).smaller;
  greater = λ g u v len all u_in v_in. (edge_put g u v len all u_in v_in).greater;
  others = λ g u v w len all u_in v_in. (edge_put g u v len all u_in v_in).others w;
  ends = λ g u v len all u_in v_in. (edge_put g u v len all u_in v_in).ends;
  rest = edge_keeps;
}
