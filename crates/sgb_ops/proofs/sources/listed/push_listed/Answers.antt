use Rattle.sgb_vec.proofs.Common.{◌∙◌, Some, ap, sym}
use Rattle.sgb_gen.specs.Generators.{vector_graph_of}
use Rattle.sgb_gen.proofs.ListedGraphs.{of_local}
use Rattle.sgb_ops.specs.inner.TakenEvents.{are_once}
use Rattle.sgb_ops.proofs.KeptEvents.{events_given}
use Rattle.sgb_ops.proofs.sources.listed.push_listed.Goals as goal

pub returns-clause-ok : goal.returns-clause-ok
returns-clause-ok c =
    let l = c.args.lists.now in
    events_given c.args.directed (vector_graph_of l) (of_local l) c.args.v c.args.n c.as_slice.result.now c.args.events.now.items c.give_arcs.new.out.items c.give_arcs.new.room c.are_once.result
    c.in_ok-give_arcs.field-0 (c.put_vector.ensures ∙ ap Some (sym c.as_slice.ensures.value)) (c.are_once.ensures ∙ ap (are_once c.args.directed) c.is_directed.ensures)
    c.in_ok-give_arcs.ensures.given
