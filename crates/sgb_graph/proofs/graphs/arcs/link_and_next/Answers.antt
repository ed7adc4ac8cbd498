use Rattle.sgb_vec.proofs.Common.{rules, slice_get_within}
use Rattle.sgb_graph.proofs.Chains.{step_of}
use Rattle.sgb_graph.proofs.KeptGraphs.{step_to}
use Rattle.sgb_graph.proofs.graphs.arcs.link_and_next.Goals as goal

pub lead-tip-requires : goal.lead-tip-requires
lead-tip-requires c =
    let step = step_of c.args.records.now.items c.args.number c.requires in
    slice_get_within c.args.records.now.items c.args.number step.here step.is

pub returns : goal.returns
returns c =
    let step = step_of c.args.records.now.items c.args.number c.requires in
    let to = step_to c.args.records.now.items c.args.number step.here c.requires step.is in
    let lead = rw step.is at c.lead-tip.ensures in
    search rules
