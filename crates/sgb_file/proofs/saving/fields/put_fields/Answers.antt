use Rattle.std.proofs.Common.{rules}
use Rattle.sgb_file.proofs.FieldTexts.{texts_of, fields-unused}
use Rattle.sgb_file.proofs.saving.fields.put_fields.Goals as goal

pub returns-then-not-any_used : goal.returns-then-not-any_used
returns-then-not-any_used g c = search (rules, fields-unused, texts_of)
