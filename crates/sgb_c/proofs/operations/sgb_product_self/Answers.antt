use Rattle.std.proofs.Common.{rules, w64, subst}
use Rattle.std.proofs.lemmas.Int.{to_z-of_z}
use Rattle.sgb_ops.specs.Product.{product_graph_of}
use Rattle.sgb_c.specs.Handles.{graph_in}
use Rattle.sgb_c.specs.Made.{IsMade, of_both}
use Rattle.sgb_c.proofs.operations.sgb_product_self.Goals as goal

pub returns-clause-made : goal.returns-clause-made
returns-clause-made c =
    subst (λ kind. IsMade (of_both (λ g h. product_graph_of g h kind c.args.directed) (graph_in c.args.graph.now) (graph_in c.args.graph.now)) (graph_in c.args.made.now) (graph_in c.make_of_itself.new.self) c.make_of_itself.result)
    (to_z-of_z w64 c.args.kind (search rules)) c.make_of_itself.ensures.made
