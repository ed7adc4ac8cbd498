use Rattle.std.proofs.Common.{rules}
use Rattle.sgb_file.proofs.FieldTexts.{six_values}
use Rattle.sgb_arrays.proofs.copies.own_fields.Goals as goal

pub returns : goal.returns
returns c = search (rules, six_values)
