use Rattle.std.proofs.Common.{length, ap, sym, ◌∙◌, add-zero}
use Rattle.sgb_graph.specs.Graphs.{chain_of}
use Rattle.sgb_graph.proofs.SideBySide.{all_counted, more_stepped, one_stepped, stepped_falls, still_short}
use Rattle.sgb_graph.proofs.graphs.Graph.degrees.Goals as goal

pub step-requires : goal.step-requires
step-requires c = still_short c.loop-more.first.count (length c.loop-more.first.left) _ _ c.records_len-more.result c.loop-more.invariant.first (rw (← c.arcs.ensures.chain) c.arcs.ensures.short) c.records_len-more.ensures c.records_len-more.type_inv

pub step-requires-in-loop-more : goal.step-requires-in-loop-more
step-requires-in-loop-more c = still_short c.loop-more.second.count (length c.loop-more.second.left) _ _ c.records_len-more.result c.loop-more.invariant.second (rw (← c.arcs-2.ensures.chain) c.arcs-2.ensures.short) c.records_len-more.ensures c.records_len-more.type_inv

pub step-requires-in-loop-more-2 : goal.step-requires-in-loop-more-2
step-requires-in-loop-more-2 c = still_short c.loop-more.third.count (length c.loop-more.third.left) _ _ c.records_len-more.result c.loop-more.invariant.third (rw (← c.arcs-3.ensures.chain) c.arcs-3.ensures.short) c.records_len-more.ensures c.records_len-more.type_inv

pub step-requires-in-loop-more-3 : goal.step-requires-in-loop-more-3
step-requires-in-loop-more-3 c = still_short c.loop-more.fourth.count (length c.loop-more.fourth.left) _ _ c.records_len-more.result c.loop-more.invariant.fourth (rw (← c.arcs-4.ensures.chain) c.arcs-4.ensures.short) c.records_len-more.ensures c.records_len-more.type_inv

pub step-requires-in-loop-more-4 : goal.step-requires-in-loop-more-4
step-requires-in-loop-more-4 c = still_short c.loop-more.fifth.count (length c.loop-more.fifth.left) _ _ c.records_len-more.result c.loop-more.invariant.fifth (rw (← c.arcs-5.ensures.chain) c.arcs-5.ensures.short) c.records_len-more.ensures c.records_len-more.type_inv

pub step-requires-in-loop-more-5 : goal.step-requires-in-loop-more-5
step-requires-in-loop-more-5 c = still_short c.loop-more.sixth.count (length c.loop-more.sixth.left) _ _ c.records_len-more.result c.loop-more.invariant.sixth (rw (← c.arcs-6.ensures.chain) c.arcs-6.ensures.short) c.records_len-more.ensures c.records_len-more.type_inv

pub step-requires-in-loop-more-6 : goal.step-requires-in-loop-more-6
step-requires-in-loop-more-6 c = still_short c.loop-more.seventh.count (length c.loop-more.seventh.left) _ _ c.records_len-more.result c.loop-more.invariant.seventh (rw (← c.arcs-7.ensures.chain) c.arcs-7.ensures.short) c.records_len-more.ensures c.records_len-more.type_inv

pub step-requires-in-loop-more-7 : goal.step-requires-in-loop-more-7
step-requires-in-loop-more-7 c = still_short c.loop-more.eighth.count (length c.loop-more.eighth.left) _ _ c.records_len-more.result c.loop-more.invariant.eighth (rw (← c.arcs-8.ensures.chain) c.arcs-8.ensures.short) c.records_len-more.ensures c.records_len-more.type_inv

pub loop-more-smaller : goal.loop-more-smaller
loop-more-smaller c = stepped_falls c.loop-more.more (more_stepped (more_stepped (more_stepped (more_stepped (more_stepped (more_stepped (more_stepped (one_stepped c.step.result (length c.loop-more.first.left) (length c.step.new.self.left) c.step.ensures.some c.step.ensures.none) (one_stepped c.step-in-loop-more.result (length c.loop-more.second.left) (length c.step-in-loop-more.new.self.left) c.step-in-loop-more.ensures.some c.step-in-loop-more.ensures.none)) (one_stepped c.step-in-loop-more-2.result (length c.loop-more.third.left) (length c.step-in-loop-more-2.new.self.left) c.step-in-loop-more-2.ensures.some c.step-in-loop-more-2.ensures.none)) (one_stepped c.step-in-loop-more-3.result (length c.loop-more.fourth.left) (length c.step-in-loop-more-3.new.self.left) c.step-in-loop-more-3.ensures.some c.step-in-loop-more-3.ensures.none)) (one_stepped c.step-in-loop-more-4.result (length c.loop-more.fifth.left) (length c.step-in-loop-more-4.new.self.left) c.step-in-loop-more-4.ensures.some c.step-in-loop-more-4.ensures.none)) (one_stepped c.step-in-loop-more-5.result (length c.loop-more.sixth.left) (length c.step-in-loop-more-5.new.self.left) c.step-in-loop-more-5.ensures.some c.step-in-loop-more-5.ensures.none)) (one_stepped c.step-in-loop-more-6.result (length c.loop-more.seventh.left) (length c.step-in-loop-more-6.new.self.left) c.step-in-loop-more-6.ensures.some c.step-in-loop-more-6.ensures.none)) (one_stepped c.step-in-loop-more-7.result (length c.loop-more.eighth.left) (length c.step-in-loop-more-7.new.self.left) c.step-in-loop-more-7.ensures.some c.step-in-loop-more-7.ensures.none)) c.loop-more-test.true

pub loop-more-preserved : goal.loop-more-preserved
loop-more-preserved c = record {
  first = c.step.ensures.whole ∙ c.loop-more.invariant.first;
  second = c.step-in-loop-more.ensures.whole ∙ c.loop-more.invariant.second;
  third = c.step-in-loop-more-2.ensures.whole ∙ c.loop-more.invariant.third;
  fourth = c.step-in-loop-more-3.ensures.whole ∙ c.loop-more.invariant.fourth;
  fifth = c.step-in-loop-more-4.ensures.whole ∙ c.loop-more.invariant.fifth;
  sixth = c.step-in-loop-more-5.ensures.whole ∙ c.loop-more.invariant.sixth;
  seventh = c.step-in-loop-more-6.ensures.whole ∙ c.loop-more.invariant.seventh;
  eighth = c.step-in-loop-more-7.ensures.whole ∙ c.loop-more.invariant.eighth;
  ended = ((more_stepped (more_stepped (more_stepped (more_stepped (more_stepped (more_stepped (more_stepped (one_stepped c.step.result (length c.loop-more.first.left) (length c.step.new.self.left) c.step.ensures.some c.step.ensures.none) (one_stepped c.step-in-loop-more.result (length c.loop-more.second.left) (length c.step-in-loop-more.new.self.left) c.step-in-loop-more.ensures.some c.step-in-loop-more.ensures.none)) (one_stepped c.step-in-loop-more-2.result (length c.loop-more.third.left) (length c.step-in-loop-more-2.new.self.left) c.step-in-loop-more-2.ensures.some c.step-in-loop-more-2.ensures.none)) (one_stepped c.step-in-loop-more-3.result (length c.loop-more.fourth.left) (length c.step-in-loop-more-3.new.self.left) c.step-in-loop-more-3.ensures.some c.step-in-loop-more-3.ensures.none)) (one_stepped c.step-in-loop-more-4.result (length c.loop-more.fifth.left) (length c.step-in-loop-more-4.new.self.left) c.step-in-loop-more-4.ensures.some c.step-in-loop-more-4.ensures.none)) (one_stepped c.step-in-loop-more-5.result (length c.loop-more.sixth.left) (length c.step-in-loop-more-5.new.self.left) c.step-in-loop-more-5.ensures.some c.step-in-loop-more-5.ensures.none)) (one_stepped c.step-in-loop-more-6.result (length c.loop-more.seventh.left) (length c.step-in-loop-more-6.new.self.left) c.step-in-loop-more-6.ensures.some c.step-in-loop-more-6.ensures.none)) (one_stepped c.step-in-loop-more-7.result (length c.loop-more.eighth.left) (length c.step-in-loop-more-7.new.self.left) c.step-in-loop-more-7.ensures.some c.step-in-loop-more-7.ensures.none))).ended;
}

pub returns : goal.returns
returns c = let i = c.loop-more.invariant in all_counted _ _ _ _ _ _ _ _ _ _ _ _ _ _ _ _ _ _ _ _ _ _ _ _ (i.first ∙ ap (λ k. length (chain_of c.args.self.now k)) (sym (add-zero c.args.v))) i.second i.third i.fourth i.fifth i.sixth i.seventh i.eighth (i.ended c.loop-more-test.false)
