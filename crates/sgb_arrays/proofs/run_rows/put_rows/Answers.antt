use Rattle.std.proofs.Common.{◌∙◌, ◌≡◌, ◌<◌, ◌+◌, ◌++◌, ◌∷◌, [], ℕ, ap, refl, length, map, arith, rules, All, Contains, subst, sym}
use Rattle.std.specs.Prelude.{IfSome, Some, slice_get}
use Rattle.std.proofs.lemmas.List.{length-map}
use Rattle.sgb_vec.specs.Lexicographic.{IsRising}
use Rattle.sgb_graph.specs.Graphs.{chain_of}
use Rattle.sgb_graph.specs.declared.fields.Link.{Link}
use Rattle.sgb_graph.specs.Made.{graph_described}
use Rattle.sgb_gen.specs.VectorGraphs.{HasEnds, VectorGraph, described_by}
use Rattle.sgb_arrays.specs.Runs.{parts_of, part_starts}
use Rattle.sgb_arrays.proofs.RunSteps.{start_more, values_more}
use Rattle.sgb_arrays.proofs.LocalRuns.{left_after, some_front}
use Rattle.sgb_gen.proofs.FamilyWalks.{at_front}
use Rattle.sgb_arrays.proofs.run_rows.put_rows.Goals as goal

pub loop-k-init : goal.loop-k-init
unfolding parts_of part_starts
loop-k-init g c = record {
  starts = c.in_ok-rows.ensures.starts;
  tips = c.in_ok-rows.ensures.tips;
  lengths = c.in_ok-rows.ensures.lengths;
  left = grind (arith, c.vectors_from-left.ensures, c.family-family.ensures.members);
  same = refl;
}

pub vectors_from-left-requires : goal.vectors_from-left-requires
vectors_from-left-requires g c = omega (arith, c.requires.there, ap length c.family-family.ensures.members)

pub unwrap-x-requires : goal.unwrap-x-requires
unwrap-x-requires g c =
    let listed = g.L.Listed.graph c.args.listed.now in
    let within : c.args.first + c.loop-k.k < length listed.vectors = omega (arith, c.requires.there) in
    some_front c.front.result c.loop-k.left listed.vectors (c.args.first + c.loop-k.k) c.loop-k.invariant.left within c.front.ensures.none

pub push_vertex-requires : goal.push_vertex-requires
push_vertex-requires g c =
    let listed = g.L.Listed.graph c.args.listed.now in
    let there = at_front listed.vectors c.loop-k.left (c.args.first + c.loop-k.k) c.unwrap-x.result.now c.loop-k.invariant.left (rw c.unwrap-x.ensures at c.front.ensures.first) in
    let now = g.L.Listed.graph c.loop-k.listed in
    let vertex : slice_get now.vectors (c.args.first + c.loop-k.k) ≡ Some c.unwrap-x.result.now = rw c.loop-k.invariant.same there in
    let rising : IsRising now.vectors = rw c.loop-k.invariant.same (subst IsRising c.family-family.ensures.members (g.met.L.Members.Family.rising c.family-family.result.now)) in
    let ends : All (HasEnds now.vectors) now.moves = subst (λ (h : VectorGraph). All (HasEnds h.vectors) h.moves) (sym c.loop-k.invariant.same) c.family-family.ensures.ends in
    let places : IfSome c.args.places.now (λ p. g.L.Places.VectorPlaces.vectors p ≡ now.vectors) = rw c.loop-k.invariant.same c.requires.places in
    search rules

pub loop-k-preserved : goal.loop-k-preserved
loop-k-preserved g c =
    let listed = g.L.Listed.graph c.args.listed.now in
    let graph = graph_described (described_by listed) in
    let first = c.args.first in
    let k = c.loop-k.k in
    let same : g.L.Listed.graph c.push_vertex.new.listed ≡ listed = c.push_vertex.ensures.same ∙ c.loop-k.invariant.same in
    let chain = ap (λ h. chain_of (graph_described (described_by h)) (first + k)) c.loop-k.invariant.same in
    let tips = values_more (λ (r : Link). r.tip) (chain_of graph) first k c.loop-k.rows.tips.items _ c.push_vertex.new.self.tips.items c.loop-k.invariant.tips (ap (map (λ (r : Link). r.tip)) chain) c.in_ok-push_vertex.ensures.tips in
    let lengths = values_more (λ (r : Link). r.len) (chain_of graph) first k c.loop-k.rows.lengths.items _ c.push_vertex.new.self.lengths.items c.loop-k.invariant.lengths (ap (map (λ (r : Link). r.len)) chain) c.in_ok-push_vertex.ensures.lengths in
    let size = ap length tips ∙ length-map (parts_of (chain_of graph) first (k + 1)) (λ (r : Link). r.tip) in
    record {
      starts = start_more (chain_of graph) first k c.loop-k.rows.starts.items c.push_start.new.self.starts.items (length c.push_vertex.new.self.tips.items) c.loop-k.invariant.starts size
          (c.in_ok-push_start.ensures.starts ∙ ap (λ ss. ss ++ length c.push_vertex.new.self.tips.items ∷ []) c.in_ok-push_vertex.ensures.starts);
      tips = c.in_ok-push_start.ensures.tips ∙ tips;
      lengths = c.in_ok-push_start.ensures.lengths ∙ lengths;
      left = left_after listed.vectors c.loop-k.left c.advance-some.new.self first k c.loop-k.invariant.left c.advance-some.ensures.rest;
      same = same;
    }
