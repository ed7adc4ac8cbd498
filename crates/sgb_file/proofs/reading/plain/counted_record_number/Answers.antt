use Rattle.std.proofs.Common.{sym, rules, sym, ◌∙◌}
use Rattle.sgb_file.proofs.CountedFields.{no_record_counted, record_number_counted}
use Rattle.sgb_file.proofs.reading.plain.counted_record_number.Goals as goal

pub returns-in-Some : goal.returns-in-Some
returns-in-Some c =
    rw (sym c.counts.view_is)
    (record_number_counted _ _ _ _ _ _ _ _ (search rules) c.value_after_byte-begun.ensures c.in_ok-k.ensures.field)

pub returns : goal.returns
returns c =
    no_record_counted _ _ _ _ c.in_ok-rest.rest.now (search rules) (sym c.is_at_end.ensures ∙ c.if-not-is_at_end.false) c.value_after_byte.ensures
