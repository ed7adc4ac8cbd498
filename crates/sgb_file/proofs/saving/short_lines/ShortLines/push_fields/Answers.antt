use Rattle.sgb_file.proofs.ShortLines.{put-then}
use Rattle.sgb_file.proofs.saving.short_lines.ShortLines.push_fields.Goals as goal

pub returns-clause-put : goal.returns-clause-put
returns-clause-put c =
    let z = put-then _ _ _ _ _ c.push_byte-3.ensures.put c.push_four-3.ensures.put in
    let y = put-then _ _ _ _ _ c.push_byte-2.ensures.put (put-then _ _ _ _ _ c.push_four-2.ensures.put z) in
    put-then _ _ _ _ _ c.push_next.ensures.put (put-then _ _ _ _ _ c.push_byte.ensures.put (put-then _ _ _ _ _ c.push_four.ensures.put y))
