use Rattle.std.proofs.Common.{◌≡◌, ◌<◌, ℕ, ℤ, ◌/◌, min, pos, nat_abs, get_or, length, ap, arith, rules}
use Rattle.sgb_vec.proofs.BoxPlaces.{Contains-from_IsBelow}
use Rattle.sgb_moves.specs.MovedCoordinates.{parts_of}
use Rattle.sgb_gen.proofs.FallingPlaces.{around_arcs}
use Rattle.sgb_moves.proofs.SideEntries.{entry_there}
use Rattle.sgb_gen.proofs.accepted.boards.Board.lengths_before.Goals as goal

pub returns-clause-order : goal.returns-clause-order
returns-clause-order c =
    let b = c.args.self.now in
    let x = c.args.x.now in
    let t = c.args.t.now in
    let near = c.times_within.result in
    let behind = c.args.behind in
    let entry : ℕ × ℤ = get_or c.parts.result.now 0 (0, pos 0) in
    let step : c.unsigned_abs.result ≡ nat_abs entry.1 = search rules in
    let turn : near ≡ min behind (get_or x (get_or (parts_of t) 0 (0, pos 0)).0 0 / nat_abs (get_or (parts_of t) 0 (0, pos 0)).1) =
    rw (← c.parts.ensures.parts, ← step) c.times_within.ensures in
    around_arcs b t x (Contains-from_IsBelow b.sizes x c.requires.below) c.requires.dimensions behind near c.requires.some c.requires.once c.requires.behind turn

pub bounds-parts-0 : goal.bounds-parts-0
bounds-parts-0 c = omega (arith, ap length c.parts.ensures.parts, c.requires.some)

pub bounds-parts-0-2 : goal.bounds-parts-0-2
bounds-parts-0-2 c = omega (arith, ap length c.parts.ensures.parts, c.requires.some)

pub bounds-x-k : goal.bounds-x-k
bounds-x-k c =
    let some : 0 < length c.parts.result.now = omega (arith, ap length c.parts.ensures.parts, c.requires.some) in
    entry_there c.args.self.now.sizes c.args.x.now _ c.requires.below (omega (arith, c.parts.ensures.within 0 (0, pos 0) some, c.requires.dimensions))

pub offset_bounds-x-k : goal.offset_bounds-x-k
offset_bounds-x-k c =
    let some : 0 < length c.parts.result.now = omega (arith, ap length c.parts.ensures.parts, c.requires.some) in
    let there = entry_there c.args.self.now.sizes c.args.x.now (get_or c.parts.result.now 0 (0, pos 0)).0 c.requires.below (omega (arith, c.parts.ensures.within 0 (0, pos 0) some, c.requires.dimensions)) in
    omega (arith, there)
