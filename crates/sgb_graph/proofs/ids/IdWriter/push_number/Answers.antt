use Rattle.sgb_vec.proofs.Common.{rules, signed_decimal, common_steps, to_z-of_z}
use Rattle.sgb_graph.specs.Ids.{IsId}
use Rattle.sgb_graph.proofs.IdLemmas.{IsId-push_number, length-number}
use Rattle.sgb_graph.proofs.ids.IdWriter.push_number.Goals as goal

pub invariant_of-self : goal.invariant_of-self
invariant_of-self c = search (rules, IsId, signed_decimal, IsId-push_number, length-number, to_z-of_z, common_steps)
