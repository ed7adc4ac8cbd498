use Rattle.sgb_vec.proofs.Common.{subst, sym}
use Rattle.sgb_vec.specs.Names.{IsText}
use Rattle.sgb_vec.proofs.TextParts.{parts_are_text, put_together}
use Rattle.sgb_vec.proofs.texts.Text.of_long_parts.Goals as goal

pub of_vec-requires : goal.of_vec-requires
of_vec-requires c =
    let a = c.args.first.now in
    let b = c.args.second.now in
    let e = c.args.third.now in
    subst IsText (sym (put_together a b e _ _ _ _ c.in_ok-bytes.ensures.items c.in_ok-extend_from_slice.ensures.items c.in_ok-extend_from_slice-2.ensures.items c.in_ok-extend_from_slice-3.ensures.items))
    (parts_are_text a b e c.requires.short c.requires.first c.requires.second c.requires.third)
