use Rattle.std.proofs.Common.{rules}
use Rattle.sgb_vec.proofs.VectorNames.{name_of_one}
use Rattle.sgb_ops.proofs.JoinedNames.{number_is_short}
use Rattle.sgb_ops.proofs.induced_graphs.copied_names.merged_name.Goals as goal

pub of_parts-requires-clause-short : goal.of_parts-requires-clause-short
of_parts-requires-clause-short c = search (rules, number_is_short)

pub returns-clause-ok : goal.returns-clause-ok
returns-clause-ok c = search (rules, name_of_one)
