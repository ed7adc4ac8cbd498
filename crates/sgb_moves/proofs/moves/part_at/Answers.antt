use Rattle.std.proofs.Common.{◌+ℤ◌, ◌*ℤ◌, pos, get_or, ap, ap₂, ◌∙◌, w32, w64, arith}
use Rattle.std.proofs.lemmas.Int.{to_z-of_z}
use Rattle.sgb_moves.specs.Moves.{coordinate_on, is_bit_set}
use Rattle.sgb_moves.proofs.SideEntries.{entry_less, entry_there}
use Rattle.sgb_moves.proofs.moves.part_at.Goals as goal

pub bounds-x-k : goal.bounds-x-k
bounds-x-k c = entry_there c.args.sizes.now c.args.x.now c.args.k c.requires.below c.requires.within

pub coordinate_on-requires : goal.coordinate_on-requires
coordinate_on-requires c = omega (arith, entry_less c.args.sizes.now c.args.x.now c.args.k c.requires.below c.requires.within)

pub returns : goal.returns
returns c =
    let wraps = c.wraps.ensures ∙ ap (λ z. is_bit_set z c.args.k) (to_z-of_z w64 c.args.wrap c.ranges.wrap) in
    let place = to_z-of_z w64 c.moved.result (record { sfits = c.moved.type_inv }) ∙ c.moved.ensures ∙ ap (λ t. pos (get_or c.args.x.now c.args.k 0) +ℤ pos c.args.l *ℤ t) (to_z-of_z w32 c.args.amount c.ranges.amount) in
    c.coordinate_on.ensures ∙ ap₂ (λ w y. coordinate_on (record { size = get_or c.args.sizes.now c.args.k 0; wraps = w }) y) wraps place
