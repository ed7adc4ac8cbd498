use Rattle.std.proofs.Common.{◌≡◌, ◌++◌, map}
use Rattle.sgb_graph.specs.Graphs.{chain_of}
use Rattle.sgb_ops.proofs.sources.push_tips.Given as goal

-- with the tips of the arcs that are to come, they are all
abbrev pub invariant-loop-link : goal.invariant-loop-link
invariant-loop-link l =
    l.tips.items ++ map (λ x. x.tip) l.link-iterator ≡ l.fn.tips.items ++ map (λ x. x.tip) (chain_of l.graph l.v)
