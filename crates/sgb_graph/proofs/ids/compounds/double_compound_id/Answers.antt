use Rattle.std.proofs.Common.{arith, length-append, length-take}
use Rattle.sgb_graph.specs.Ids.{double_compound_id}
use Rattle.sgb_graph.proofs.ids.compounds.double_compound_id.Goals as goal

pub push_operand-requires : goal.push_operand-requires
push_operand-requires c = grind (arith, length-append, length-take)

pub push_text-requires-2-clause-room : goal.push_text-requires-2-clause-room
push_text-requires-2-clause-room c = grind (arith, length-append, length-take)

pub push_operand-requires-2 : goal.push_operand-requires-2
push_operand-requires-2 c = grind (arith, length-append, length-take)

pub push_text-requires-3-clause-room : goal.push_text-requires-3-clause-room
push_text-requires-3-clause-room c = grind (arith, length-append, length-take)

pub returns : goal.returns
unfolding double_compound_id
returns c = grind (arith, length-append)
