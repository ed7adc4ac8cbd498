use Rattle.std.proofs.Common.{ℕ, ◌<◌, subst, sym, ◌∙◌, arith, length-set}
use Rattle.std.proofs.lemmas.Option.{slice_get_within}
use Rattle.sgb_gen.proofs.accepted.subsets.last_entries.push_unit.Goals as goal

pub offset_bounds-tip-place : goal.offset_bounds-tip-place
offset_bounds-tip-place g c = omega (arith, slice_get_within c.args.tip.now c.args.place 0 c.requires.zero)

pub bounds-tip-place : goal.bounds-tip-place
bounds-tip-place g c = slice_get_within c.args.tip.now c.args.place 0 c.requires.zero

pub put_arc-requires-clause-width : goal.put_arc-requires-clause-width
put_arc-requires-clause-width g c = length-set c.args.tip.now c.args.place 1 ∙ c.requires.width

pub offset_bounds-tip-place-2 : goal.offset_bounds-tip-place-2
offset_bounds-tip-place-2 g c = omega (arith, slice_get_within c.args.tip.now c.args.place 0 c.requires.zero)

pub bounds-tip-place-2 : goal.bounds-tip-place-2
bounds-tip-place-2 g c = subst (λ (n : ℕ). c.args.place < n) (sym (length-set c.args.tip.now c.args.place 1)) (slice_get_within c.args.tip.now c.args.place 0 c.requires.zero)
