use Rattle.std.proofs.Common.{◌≡◌, ◌++◌}
use Rattle.sgb_graph.specs.Graphs.{chain_of}
use Rattle.sgb_ops.proofs.sources.put_list.Given as goal

-- with the arcs that are to come, they are all
abbrev pub invariant-loop-link : goal.invariant-loop-link
invariant-loop-link l = l.arcs.items ++ l.link-iterator ≡ chain_of l.graph l.v
