use Rattle.sgb_graph.proofs.CompoundIds.{id_passes, prefix_passes}
use Rattle.sgb_graph.proofs.ids.compounds.push_operand.Goals as goal

pub push_text-requires-clause-text : goal.push_text-requires-clause-text
push_text-requires-clause-text c = rw c.bytes-bytes.ensures.value (id_passes c.args.id.now c.bytes-bytes.ensures.id)

pub push_text-requires-2-clause-text : goal.push_text-requires-2-clause-text
push_text-requires-2-clause-text c = rw c.bytes-bytes.ensures.value (prefix_passes c.min.result c.args.id.now c.bytes-bytes.ensures.id)
