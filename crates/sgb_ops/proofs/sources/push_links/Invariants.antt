use Rattle.std.proofs.Common.{◌≡◌, ◌++◌}
use Rattle.sgb_taken.specs.Taken.{taken}
use Rattle.sgb_ops.proofs.sources.push_links.Given as goal

-- with the arcs that are to come, they are all
abbrev pub invariant-loop-link : goal.invariant-loop-link
invariant-loop-link l = l.arcs.items ++ l.link-iterator ≡ l.fn.arcs.items ++ taken l.directed l.graph l.v
