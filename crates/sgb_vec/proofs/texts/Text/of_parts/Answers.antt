use Rattle.sgb_vec.proofs.Common.{subst, sym}
use Rattle.sgb_vec.specs.Names.{IsText}
use Rattle.sgb_vec.proofs.TextParts.{parts_are_text, put_together}
use Rattle.sgb_vec.proofs.texts.Text.of_parts.Goals as goal

pub of_few-requires : goal.of_few-requires
of_few-requires c =
    let a = c.args.first.now in
    let b = c.args.second.now in
    let e = c.args.third.now in
    subst IsText (sym (put_together a b e _ _ _ _ c.new-text.ensures c.push_name.ensures.put c.push_name-2.ensures.put c.push_name-3.ensures.put))
    (parts_are_text a b e c.requires.short c.requires.first c.requires.second c.requires.third)
