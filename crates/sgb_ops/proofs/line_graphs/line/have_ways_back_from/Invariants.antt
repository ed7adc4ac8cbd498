use Rattle.std.proofs.Common.{◌≡◌, false}
use Rattle.std.specs.List.{list_all}
use Rattle.sgb_ops.specs.Lines.{has_way_back}
use Rattle.sgb_taken.specs.Taken.{taken}
use Rattle.sgb_ops.proofs.line_graphs.line.have_ways_back_from.Given as goal

-- it is told by the arcs that are left
abbrev pub invariant-loop-link : goal.invariant-loop-link
invariant-loop-link l = list_all (has_way_back l.graph l.v) l.link-iterator ≡ list_all (has_way_back l.graph l.v) (taken false l.graph l.v)
