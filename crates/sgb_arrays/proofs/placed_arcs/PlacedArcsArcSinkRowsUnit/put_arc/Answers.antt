use Rattle.sgb_arrays.proofs.PlacedRows.{arc_given}
use Rattle.sgb_arrays.proofs.placed_arcs.PlacedArcsArcSinkRowsUnit.put_arc.Goals as goal

pub returns-clause-given : goal.returns-clause-given
returns-clause-given g c =
    arc_given _ c.args.tip.now c.args.len c.place_if_there.result c.args.rows.now c.push_arc.new.self _ c.place_if_there.ensures c.push_arc.ensures.tips c.push_arc.ensures.lengths c.push_arc.ensures.starts c.push_arc.ensures.memory
