use Rattle.sgb_vec.proofs.Common.{rules, ◌∙◌, sym, slice_index, nat_tests}
use Rattle.sgb_file.proofs.LineLemmas.{no_bytes, stays_clean}
use Rattle.sgb_file.proofs.LinesLeftLemmas.{clean-last, ends_well-at, clean_nothing, some_bytes}
use Rattle.sgb_file.proofs.reading.lines.without_end_spaces.Goals as goal

pub loop-line-preserved : goal.loop-line-preserved
loop-line-preserved c = search (rules, clean-last, some_bytes)

pub returns-else-line-eq32 : goal.returns-else-line-eq32
returns-else-line-eq32 c = search (rules, ends_well-at, nat_tests, slice_index, some_bytes, stays_clean)

pub returns-after-loop-line : goal.returns-after-loop-line
returns-after-loop-line c = clean_nothing c.loop-line.line.now (no_bytes c.loop-line.line.now (sym c.is_empty.ensures ∙ c.loop-line-test.false)) ∙ c.loop-line.invariant
