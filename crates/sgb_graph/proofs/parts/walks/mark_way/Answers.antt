use Rattle.std.proofs.Common.{◌≡◌, ◌⊎◌, ◌<◌, length, Some, true, inr, rules, arith, IsTrue}
use Rattle.sgb_graph.specs.Columns.{arc_seen}
use Rattle.sgb_graph.specs.Graphs.{ends_of}
use Rattle.sgb_graph.specs.inner.Walks.{leads_of, is_marked}
use Rattle.sgb_graph.proofs.MarkedWays.{way_inside, way_shorter, way_goes_on, leads_goes_on, one_more_marked, reached_more, reach_more}
use Rattle.sgb_graph.proofs.parts.walks.mark_way.Goals as goal

pub bounds-marks-k : goal.bounds-marks-k
bounds-marks-k c = search (rules, way_inside)

pub bounds-marks-k-in-Some : goal.bounds-marks-k-in-Some
bounds-marks-k-in-Some c = search (rules, way_inside)

pub get-next-requires : goal.get-next-requires
get-next-requires c = way_inside c.args.records.now.items c.in-Some.k (rw c.in-Some.is at c.loop-next.invariant.ends)

pub loop-next-smaller : goal.loop-next-smaller
loop-next-smaller c =
    let ends = rw c.in-Some.is at c.loop-next.invariant.ends in
    rw c.in-Some.is (way_shorter c.args.records.now.items c.in-Some.k (arc_seen c.get-next.result) ends c.get-next.ensures)

pub loop-next-preserved : goal.loop-next-preserved
loop-next-preserved c =
    let records = c.args.records.now.items in
    let k = c.in-Some.k in
    let kept = c.loop-next.invariant in
    let ends : ends_of records (Some k) ≡ true = rw c.in-Some.is at kept.ends in
    let inside = way_inside records k ends in
    let within : k < length c.loop-next.marks = omega (arith, kept.long, inside) in
    let first : (c.args.first ≡ Some k) ⊎ IsTrue (is_marked c.loop-next.marks c.args.first) = rw c.in-Some.is at kept.first in
    let leads : leads_of records c.args.first ≡ true → leads_of records (Some k) ≡ true = rw c.in-Some.is at kept.leads in
    record {
      long = search rules;
      ends = way_goes_on records k (arc_seen c.get-next.result) ends c.get-next.ensures;
      leads = λ all. leads_goes_on records k (arc_seen c.get-next.result) ends c.get-next.ensures (leads all);
      marks_end = λ before. one_more_marked (λ j. IsTrue (ends_of records (Some j))) c.loop-next.marks k ends (kept.marks_end before);
      marks_lead = λ before all. one_more_marked (λ j. IsTrue (leads_of records (Some j))) c.loop-next.marks k (leads all) (kept.marks_lead before all);
      first = inr (reached_more c.loop-next.marks k c.args.first within first);
      reach = λ before. reach_more records c.loop-next.marks k (arc_seen c.get-next.result) within c.get-next.ensures (rw c.in-Some.is at (kept.reach before));
    }
