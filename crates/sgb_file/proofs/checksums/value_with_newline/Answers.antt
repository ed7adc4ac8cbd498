use Rattle.sgb_vec.proofs.Common.{rules, fold-append}
use Rattle.sgb_file.specs.inner.Layouts.{value_after, value_from}
use Rattle.sgb_file.proofs.checksums.value_with_newline.Goals as goal

pub returns : goal.returns
unfolding value_from
returns c = search (rules, fold-append, value_after, value_from)
