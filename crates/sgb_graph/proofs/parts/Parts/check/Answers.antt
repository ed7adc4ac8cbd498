use Rattle.std.proofs.Common.{rules}
use Rattle.sgb_graph.specs.Graphs.{GraphData}
use Rattle.sgb_vec.specs.Results.{IsValue}
use Rattle.sgb_vec.specs.Limits.{most_vertices}
use Rattle.sgb_graph.specs.Parts.{checked}
use Rattle.sgb_graph.specs.Sound.{fields_fit}
use Rattle.sgb_graph.proofs.Misfits.{are_none, misfits_refused, with_none}
use Rattle.sgb_graph.proofs.parts.Parts.check.Goals as goal

pub returns-then-not-are_all-clause-value : goal.returns-then-not-are_all-clause-value
returns-then-not-are_all-clause-value c = search (rules, checked, misfits_refused)

pub returns-clause-value : goal.returns-clause-value
returns-clause-value c = search (rules, are_none, with_none, GraphData, IsValue, checked)

pub returns-clause-unfit : goal.returns-clause-unfit
returns-clause-unfit c = search (rules, are_none, with_none, most_vertices, fields_fit)
