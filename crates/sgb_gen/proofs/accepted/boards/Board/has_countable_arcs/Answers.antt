use Rattle.std.proofs.Common.{◌≤◌, ◌∙◌, length, nat_abs, ap, subst, sym, arith}
use Rattle.std.proofs.lemmas.Bool.{ltb-false}
use Rattle.sgb_vec.specs.Boxes.{product_of}
use Rattle.sgb_vec.specs.Limits.{most_vertices}
use Rattle.sgb_moves.specs.inner.EntryBounds.{displacements_within}
use Rattle.sgb_gen.proofs.BoundedMoves.{bounds_of}
use Rattle.sgb_gen.proofs.MostMoves.{arcs_countable}
use Rattle.sgb_gen.proofs.accepted.boards.Board.has_countable_arcs.Goals as goal

pub returns-in_default : goal.returns-in_default
returns-in_default c =
    let b = c.args.self.now in
    let few : length (displacements_within (nat_abs b.piece) (bounds_of b)) ≤ 49152 = omega (arith, c.loop-passed.invariant, ap length c.in_default.ensures.none, c.loop-passed-test.true, c.most-passed-end.ensures) in
    let places = subst (λ ns. product_of ns ≤ most_vertices) (ap (λ d. d.sizes) c.self.view_is) c.self.invariant.1.vertices in
    arcs_countable b places few
