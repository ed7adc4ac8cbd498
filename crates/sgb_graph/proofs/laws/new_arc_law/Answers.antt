use Rattle.sgb_graph.proofs.AddingArcs.{arc_keeps, arc_put}
use Rattle.sgb_graph.proofs.laws.new_arc_law.Goals as goal

pub returns : goal.returns
returns c = record {
  chain = λ g u v len all u_in. (arc_put g u v len all u_in).chain;
  others = λ g u v w len all u_in. (arc_put g u v len all u_in).others w;
  ends = λ g u v len all u_in. (arc_put g u v len all u_in).ends;
  rest = arc_keeps;
}
