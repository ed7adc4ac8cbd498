use Rattle.std.proofs.Common.{◌≡◌, ◌∙◌, ◌+◌, ◌∷◌, ◌++◌, [], length, map, ap, arith}
use Rattle.std.proofs.lemmas.List.{length-map}
use Rattle.sgb_graph.specs.Graphs.{chain_of}
use Rattle.sgb_graph.specs.declared.fields.Link.{Link}
use Rattle.sgb_arrays.specs.Runs.{part_starts, parts_of}
use Rattle.sgb_arrays.specs.inner.Packed.{lengths_kept}
use Rattle.sgb_arrays.proofs.RunSteps.{start_more, values_more}
use Rattle.sgb_arrays.proofs.packed.packed_rows.Goals as goal

pub loop-v-init : goal.loop-v-init
unfolding part_starts parts_of
loop-v-init c = record { starts = c.in_ok-rows.ensures.starts; tips = c.in_ok-rows.ensures.tips; lengths = c.in_ok-rows.ensures.lengths }

pub loop-v-preserved : goal.loop-v-preserved
loop-v-preserved c =
    let g = c.args.graph.now in
    let v = c.loop-v.v in
    let put = c.in_ok-push_list.ensures in
    let ended = c.in_ok-push_start.ensures in
    let place : v ≡ 0 + v = omega arith in
    let so_far = c.loop-v.invariant in
    let tips = values_more (λ (r : Link). r.tip) (chain_of g) 0 v c.loop-v.rows.tips.items _ c.push_list.new.self.tips.items so_far.tips (ap (λ u. map (λ (r : Link). r.tip) (chain_of g u)) place)
    (rw c.if-not-branch.false at put.tips) in
    let lengths = values_more (λ (r : Link). r.len) (chain_of g) 0 v (lengths_kept c.loop-v.rows.lengths) _ (lengths_kept c.push_list.new.self.lengths) so_far.lengths (ap (λ u. map (λ (r : Link). r.len) (chain_of g u)) place)
    (rw c.if-not-branch.false at put.lengths) in
    let size = ap length tips ∙ length-map (parts_of (chain_of g) 0 (v + 1)) (λ (r : Link). r.tip) in
    record {
      starts = start_more (chain_of g) 0 v c.loop-v.rows.starts.items c.push_start.new.self.starts.items (length c.push_list.new.self.tips.items) so_far.starts size
          (ended.starts ∙ ap (λ ss. ss ++ length c.push_list.new.self.tips.items ∷ []) put.starts);
      tips = ended.tips ∙ tips;
      lengths = ended.lengths ∙ lengths;
    }

pub returns-clause-rows : goal.returns-clause-rows
returns-clause-rows c =
    let g = c.args.graph.now in
    let all : c.loop-v.v ≡ length g.vertices = omega (arith, c.n-v-end.ensures.count, c.loop-v.auto.v-end) in
    record {
      starts_are = c.loop-v.invariant.starts ∙ ap (part_starts (chain_of g) 0) all;
      tips_are = c.loop-v.invariant.tips ∙ ap (λ n. map (λ (r : Link). r.tip) (parts_of (chain_of g) 0 n)) all;
      lengths_are = c.loop-v.invariant.lengths ∙ ap (λ n. map (λ (r : Link). r.len) (parts_of (chain_of g) 0 n)) all;
    }
