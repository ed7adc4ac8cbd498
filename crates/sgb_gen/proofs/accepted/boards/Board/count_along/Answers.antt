use Rattle.std.proofs.Common.{get_or, ap, arith, rules}
use Rattle.std.proofs.lemmas.Int.{to_z-of_z}
use Rattle.sgb_vec.proofs.BoxPlaces.{length-box}
use Rattle.sgb_gen.proofs.BoardCountsTotals.{rest-some, along-read}
use Rattle.sgb_gen.proofs.accepted.boards.Board.count_along.Goals as goal

pub lengths_along-requires-clause-size : goal.lengths_along-requires-clause-size
lengths_along-requires-clause-size c =
    let b = c.args.self.now in
    let r = c.requires in
    let some = rest-some b.sizes b.wrap b.piece c.args.t.now c.args.k r.dimensions r.some r.entry r.stop r.free in
    omega (arith, some.1, ap (λ s. get_or s c.args.k 0) c.sizes.ensures)

pub returns : goal.returns
returns c = search (rules, to_z-of_z, length-box, along-read)
