use Rattle.std.proofs.Common.{◌+◌, ◌+ℤ◌, ◌*ℤ◌, ℕ, ℤ, pos, get_or, w32, w64, to_z, of_z, sym, ap₂, ◌∙◌, arith, rules}
use Rattle.std.proofs.lemmas.Int.{to_z-of_z}
use Rattle.std.specs.Option.{is_some}
use Rattle.sgb_moves.specs.Moves.{coordinate_on}
use Rattle.sgb_moves.proofs.PartReaches.{part_of, reach-more}
use Rattle.sgb_moves.proofs.SideEntries.{entry_less, entry_there}
use Rattle.sgb_moves.proofs.moves.reach.Goals as goal

pub loop-k-preserved : goal.loop-k-preserved
loop-k-preserved c =
    let sizes = c.args.sizes.now in
    let x = c.args.x.now in
    let wrap : ℤ = to_z w64 (of_z w64 c.args.wrap) in
    let p = part_of c.args.parts.now c.loop-k.k-index in
    let read = λ (m : ℕ). ap₂ (λ a b. is_some (coordinate_on (record { size = get_or sizes p.0 0; wraps = b }) (pos (get_or x p.0 0) +ℤ pos m *ℤ a))) (to_z-of_z w32 p.1 (search rules)) c.wraps.ensures in
    reach-more sizes wrap x c.args.most c.args.parts.now c.loop-k.k-index c.loop-k.reach c.steps_on-reach.result (omega arith) c.loop-k.invariant c.steps_on-reach.ensures.within
    (λ m h. sym (read m) ∙ c.steps_on-reach.ensures.stay m h)
    (λ h. sym (read (c.steps_on-reach.result + 1)) ∙ c.steps_on-reach.ensures.end h)

pub bounds-sizes-k : goal.bounds-sizes-k
bounds-sizes-k c = c.requires.parts c.loop-k.k-index (0, pos 0) c.loop-k-test.true

pub bounds-x-k : goal.bounds-x-k
bounds-x-k c = entry_there c.args.sizes.now c.args.x.now _ c.requires.below (c.requires.parts c.loop-k.k-index (0, pos 0) c.loop-k-test.true)

pub steps_on-reach-requires : goal.steps_on-reach-requires
steps_on-reach-requires c = entry_less c.args.sizes.now c.args.x.now _ c.requires.below (c.requires.parts c.loop-k.k-index (0, pos 0) c.loop-k-test.true)

pub offset_bounds-sizes-k : goal.offset_bounds-sizes-k
offset_bounds-sizes-k c = omega (arith, c.requires.parts c.loop-k.k-index (0, pos 0) c.loop-k-test.true)

pub offset_bounds-x-k : goal.offset_bounds-x-k
offset_bounds-x-k c = omega (arith, c.requires.parts c.loop-k.k-index (0, pos 0) c.loop-k-test.true)
