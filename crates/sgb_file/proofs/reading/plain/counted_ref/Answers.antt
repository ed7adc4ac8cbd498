use Rattle.std.proofs.Common.{sym, rules}
use Rattle.sgb_file.proofs.CountedFields.{ref_counted}
use Rattle.sgb_file.proofs.reading.plain.counted_ref.Goals as goal

pub returns : goal.returns
returns c =
    rw (sym c.counts.view_is)
    (ref_counted _ _ _ _ _ _ _ _ (search rules) c.value_after_byte-begun.ensures c.in_ok-v.ensures.field)
