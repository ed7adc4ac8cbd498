use Rattle.std.specs.Prelude.{◌≡◌, ◌+◌, length, false, if◌then◌else◌}
use Rattle.sgb_graph.specs.Graphs.{chain_of}
use Rattle.sgb_graph.proofs.graphs.Graph.degrees.Given as goal

abbrev pub invariant-loop-more : goal.invariant-loop-more
invariant-loop-more l = record {
  first : l.first.count + length l.first.left ≡ length (chain_of l.self l.v);
  second : l.second.count + length l.second.left ≡ length (chain_of l.self (l.v + 1));
  third : l.third.count + length l.third.left ≡ length (chain_of l.self (l.v + 2));
  fourth : l.fourth.count + length l.fourth.left ≡ length (chain_of l.self (l.v + 3));
  fifth : l.fifth.count + length l.fifth.left ≡ length (chain_of l.self (l.v + 4));
  sixth : l.sixth.count + length l.sixth.left ≡ length (chain_of l.self (l.v + 5));
  seventh : l.seventh.count + length l.seventh.left ≡ length (chain_of l.self (l.v + 6));
  eighth : l.eighth.count + length l.eighth.left ≡ length (chain_of l.self (l.v + 7));
  ended : l.more ≡ false → length l.first.left + length l.second.left + length l.third.left + length l.fourth.left + length l.fifth.left + length l.sixth.left + length l.seventh.left + length l.eighth.left ≡ 0;
}

abbrev pub decreases-loop-more : goal.decreases-loop-more
decreases-loop-more l =
    length l.first.left + length l.second.left + length l.third.left + length l.fourth.left + length l.fifth.left + length l.sixth.left + length l.seventh.left + length l.eighth.left
    + (if l.more then 1 else 0)
