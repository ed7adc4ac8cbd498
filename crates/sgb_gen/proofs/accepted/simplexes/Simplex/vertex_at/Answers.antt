use Rattle.std.proofs.Common.{rules, ◌≡◌, true, sym, ap, subst, ◌∙◌, arith}
use Rattle.std.specs.List.{Contains}
use Rattle.std.proofs.lemmas.Option.{slice_get_within}
use Rattle.sgb_gen.specs.Simplexes.{Places, simplex_vectors}
use Rattle.sgb_gen.specs.inner.Simplexes.{can_shift}
use Rattle.sgb_gen.proofs.SimplexEvents.{length_in_sum, shifted_in_simplex, vertex_in_simplex}
use Rattle.sgb_gen.proofs.accepted.simplexes.Simplex.vertex_at.Goals as goal

pub can_move_unit-requires-clause-bounds : goal.can_move_unit-requires-clause-bounds
can_move_unit-requires-clause-bounds c = search (rules, length_in_sum)

pub unit_moved-there-requires-clause-bounds : goal.unit_moved-there-requires-clause-bounds
unit_moved-there-requires-clause-bounds c = search (rules, length_in_sum)

pub unit_moved-there-requires-clause-few : goal.unit_moved-there-requires-clause-few
unit_moved-there-requires-clause-few c = omega (arith, length_in_sum c.args.self.now c.args.x.now c.requires.member, c.sizes-bounds.ensures.few)

pub vertex_of-requires-clause-member : goal.vertex_of-requires-clause-member
vertex_of-requires-clause-member c =
    let s = c.args.self.now in
    let at : Places = record { lower = c.args.lower; higher = c.args.higher } in
    let can : can_shift s.sum.bounds c.args.x.now at ≡ true = sym (c.can_move_unit.ensures ∙ ap (λ bs. can_shift bs c.args.x.now at) c.sizes-bounds.ensures.same) ∙ c.if-not-can_move_unit.false in
    let there = shifted_in_simplex s c.args.x.now at c.requires.member c.requires.order c.requires.entry can in
    subst (Contains (simplex_vectors s)) (sym (c.as_slice.ensures.value ∙ c.unit_moved-there.ensures)) there

pub returns-clause-vertex : goal.returns-clause-vertex
returns-clause-vertex c = search (rules, vertex_in_simplex)

pub returns-clause-within : goal.returns-clause-within
returns-clause-within c = search (rules, slice_get_within)
