use Rattle.std.proofs.Common.{rules, false, true}
use Rattle.sgb_graph.specs.Columns.{arc_seen}
use Rattle.sgb_graph.proofs.MarkedWays.{way_inside, way_shorter, way_goes_on, leads_none, leads_before}
use Rattle.sgb_graph.proofs.parts.walks.way_leads.Goals as goal

pub get-arc-requires : goal.get-arc-requires
get-arc-requires c = way_inside c.args.records.now.items c.in-Some.k (rw c.in-Some.is at c.loop-next.invariant.0)

pub bounds-marks-k : goal.bounds-marks-k
bounds-marks-k c = search (rules, way_inside)

pub returns-then-not-is_vertex : goal.returns-then-not-is_vertex
returns-then-not-is_vertex c = leads_before _ _ _ _ (arc_seen c.get-arc.result) false c.in-Some.is c.loop-next.invariant.0 c.loop-next.invariant.1 c.get-arc.ensures cc

pub loop-next-smaller : goal.loop-next-smaller
loop-next-smaller c =
    let ends = rw c.in-Some.is at c.loop-next.invariant.0 in
    rw c.in-Some.is (way_shorter c.args.records.now.items c.in-Some.k (arc_seen c.get-arc.result) ends c.get-arc.ensures)

pub loop-next-preserved : goal.loop-next-preserved
loop-next-preserved c =
    let ends = rw c.in-Some.is at c.loop-next.invariant.0 in (
      way_goes_on _ _ _ ends c.get-arc.ensures,
      leads_before _ _ _ _ (arc_seen c.get-arc.result) true c.in-Some.is c.loop-next.invariant.0 c.loop-next.invariant.1 c.get-arc.ensures cc,
    )

pub returns : goal.returns
returns c = search (rules, leads_none)
