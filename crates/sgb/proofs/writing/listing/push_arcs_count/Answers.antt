use Rattle.std.proofs.Common.{rules, append_assoc}
use Rattle.sgb.specs.inner.Texts.{count_text}
use Rattle.sgb.proofs.writing.listing.push_arcs_count.Goals as goal

pub returns : goal.returns
unfolding count_text
returns c = search (rules, append_assoc)
