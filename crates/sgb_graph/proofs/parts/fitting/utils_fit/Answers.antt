use Rattle.std.proofs.Common.{rules}
use Rattle.sgb_graph.proofs.CheckedParts.{utils_fit_each}
use Rattle.sgb_graph.proofs.parts.fitting.utils_fit.Goals as goal

pub returns : goal.returns
returns c = search (rules, utils_fit_each)
