use Rattle.std.proofs.Common.{◌∙◌, ◌-◌, ◌∷◌, [], length, sym, subst, arith, ap, length-append}
use Rattle.std.proofs.lemmas.Option.{get_or_from_slice_get}
use Rattle.sgb_gen.specs.inner.KeptCounts.{HaveCounts}
use Rattle.sgb_gen.proofs.KeptCounts.{HaveCounts-more}
use Rattle.sgb_gen.proofs.counted_places.rows_of.Goals as goal

pub loop-j-preserved : goal.loop-j-preserved
loop-j-preserved c =
    let rows = c.loop-j.rows.items in
    let at = get_or_from_slice_get rows (c.loop-j.j - 1) _ [] c.row_at.ensures in
    let more = HaveCounts-more c.args.total c.loop-j.j rows c.row_at.result.now c.in_ok-more.more c.args.bounds.now c.loop-j.invariant.0 c.loop-j.invariant.1 (omega arith) (omega arith) at c.in_ok-more.ensures in (
      subst (λ rs. HaveCounts c.args.total rs c.args.bounds.now) (sym c.in-Ok.ensures.items) more,
      ap length c.in-Ok.ensures.items ∙ omega (arith, length-append rows (c.in_ok-more.more ∷ []), c.loop-j.invariant.1),
    )
