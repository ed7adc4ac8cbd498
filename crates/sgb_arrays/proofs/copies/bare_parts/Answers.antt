use Rattle.std.proofs.Common.{rules}
use Rattle.sgb_file.proofs.SavedGraphs.{six_fields}
use Rattle.sgb_arrays.proofs.copies.bare_parts.Goals as goal

pub own_fields-requires : goal.own_fields-requires
own_fields-requires c = search (rules, six_fields)
