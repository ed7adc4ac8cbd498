use Rattle.std.proofs.Common.{rules, nat_lt, append_assoc}
use Rattle.sgb.specs.inner.Texts.{entries_text, entry_text}
use Rattle.sgb.proofs.NameEntries.{entries-more}
use Rattle.sgb.proofs.writing.numerals.Numerals.push_entries.Goals as goal

pub loop-place-preserved : goal.loop-place-preserved
loop-place-preserved g c = search (rules, entries_text, nat_lt, entry_text, append_assoc, entries-more)
