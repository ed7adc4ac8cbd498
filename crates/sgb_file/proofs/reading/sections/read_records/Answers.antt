use Rattle.sgb_file.specs.inner.LinesLeft.{text_left}
use Rattle.sgb_file.proofs.Sections.{records_sections}
use Rattle.sgb_file.proofs.reading.sections.read_records.Goals as goal

pub returns-clause-found : goal.returns-clause-found
returns-clause-found c =
    rw (records_sections c.args.head.now _ _ (text_left c.args.lines.now) _ _ _ c.in_ok-parts.ensures.found c.in_ok-pass_title.ensures.passed c.in_ok-parts-2.ensures.found)
    c.read_arc_section.ensures.found
