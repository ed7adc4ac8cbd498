use Rattle.std.proofs.Common.{◌∙◌, ◌≡◌, ◌<◌, ◌+◌, ◌++◌, ℕ, ap, refl, length, length-append, arith, rules, Contains}
use Rattle.std.specs.Prelude.{Some, slice_get}
use Rattle.std.proofs.lemmas.Option.{get_or_from_slice_get, slice_get_within}
use Rattle.sgb_graph.specs.Graphs.{chain_of}
use Rattle.sgb_graph.specs.Made.{graph_described}
use Rattle.sgb_gen.specs.LocalLists.{list_in}
use Rattle.sgb_gen.specs.VectorGraphs.{described_by}
use Rattle.sgb_arrays.specs.Runs.{parts_of}
use Rattle.sgb_arrays.proofs.RunSteps.{parts_more}
use Rattle.sgb_arrays.proofs.LocalRuns.{left_after, list_length, some_front}
use Rattle.sgb_gen.proofs.FamilyWalks.{at_front}
use Rattle.sgb_arrays.proofs.run_arcs.count_arcs.Goals as goal

pub loop-k-init : goal.loop-k-init
unfolding parts_of
loop-k-init g c = record {
  counted = refl;
  left = grind (arith, c.vectors_from-left.ensures, c.family.ensures.members);
  same = refl;
}

pub vectors_from-left-requires : goal.vectors_from-left-requires
vectors_from-left-requires g c = omega (arith, c.requires, ap length c.family.ensures.members)

pub unwrap-x-requires : goal.unwrap-x-requires
unwrap-x-requires g c =
    let listed = g.L.Listed.graph c.args.listed.now in
    let within : c.args.first + c.loop-k._k < length listed.vectors = omega (arith, c.requires) in
    some_front c.front.result c.loop-k.left listed.vectors (c.args.first + c.loop-k._k) c.loop-k.invariant.left within c.front.ensures.none

pub give_arcs-requires : goal.give_arcs-requires
give_arcs-requires g c =
    let listed = g.L.Listed.graph c.args.listed.now in
    let place = c.args.first + c.loop-k._k in
    let x = c.unwrap-x.result.now in
    let there = at_front listed.vectors c.loop-k.left place x c.loop-k.invariant.left (rw c.unwrap-x.ensures at c.front.ensures.first) in
    let member : Contains (g.L.Listed.graph c.loop-k.listed).vectors x = rw c.loop-k.invariant.same (place, slice_get_within listed.vectors place x there, get_or_from_slice_get listed.vectors place x x there) in
    search rules

pub loop-k-preserved : goal.loop-k-preserved
loop-k-preserved g c =
    let listed = g.L.Listed.graph c.args.listed.now in
    let graph = graph_described (described_by listed) in
    let first = c.args.first in
    let k = c.loop-k._k in
    let x = c.unwrap-x.result.now in
    let there = at_front listed.vectors c.loop-k.left (first + k) x c.loop-k.invariant.left (rw c.unwrap-x.ensures at c.front.ensures.first) in
    let own : length (list_in (g.L.Listed.graph c.loop-k.listed) x) ≡ length (chain_of graph (first + k)) =
    ap (λ h. length (list_in h x)) c.loop-k.invariant.same
    ∙ list_length listed (g.L.Members.Family.members c.family.result.now) (g.met.L.Members.Family.rising c.family.result.now) c.family.ensures.members c.family.ensures.ends (first + k) x there in
    let given : c.give_arcs.new.room ≡ c.loop-k.arcs + length (list_in (g.L.Listed.graph c.loop-k.listed) x) = search rules in
    record {
      counted = omega (arith, given, c.loop-k.invariant.counted, own, ap length (parts_more (chain_of graph) first k), length-append (parts_of (chain_of graph) first k) (chain_of graph (first + k)));
      left = left_after listed.vectors c.loop-k.left c.advance-some.new.self first k c.loop-k.invariant.left c.advance-some.ensures.rest;
      same = c.give_arcs.ensures.same ∙ c.loop-k.invariant.same;
    }
