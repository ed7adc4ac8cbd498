use Rattle.std.proofs.Common.{◌≡◌, ◌∷◌, drop, refl, sym, ap, subst, ◌∙◌, arith, rules}
use Rattle.std.specs.List.{All, Contains}
use Rattle.std.proofs.lemmas.List.Elements.{All-contains_itself, All-tail}
use Rattle.sgb_vec.specs.Limits.{most_vertices}
use Rattle.sgb_vec.specs.Sums.{bounded_sums}
use Rattle.sgb_vec.proofs.RangeSteps.{first_and_rest}
use Rattle.sgb_gen.specs.Subsets.{subsets_vectors}
use Rattle.sgb_gen.specs.inner.Descents.{down_from}
use Rattle.sgb_gen.specs.inner.SubsetsCounts.{moves_among, wanted_among}
use Rattle.sgb_gen.proofs.SubsetsCounts.{moves-counted, moves-few}
use Rattle.sgb_moves.proofs.DisplacementWalk.{first_has}
use Rattle.sgb_gen.proofs.accepted.subsets.Subsets.moves_by_walk.Goals as goal

pub loop-x-init : goal.loop-x-init
loop-x-init c =
    let s = c.args.self.now in
    let all : c.all-left.result ≡ subsets_vectors s = c.all-left.ensures ∙ ap (λ d. bounded_sums d.sum.total d.sum.bounds) c.self.view_is in (
      subst (All (Contains (subsets_vectors s))) (sym all) (All-contains_itself (subsets_vectors s)),
      omega (arith, ap (moves_among s.size_bits s.sum.bounds) all, moves-counted s),
    )

pub count_from-counted-requires : goal.count_from-counted-requires
count_from-counted-requires c = first_has (Contains (subsets_vectors c.args.self.now)) c.loop-x.left c.in-Some.x.now c.loop-x.invariant.0 c.in-Some.ensures.first

pub overflow_add-counted : goal.overflow_add-counted
overflow_add-counted c =
    let s = c.args.self.now in
    let step = first_and_rest c.loop-x.left (drop 1 c.loop-x.left) c.in-Some.x.now c.in-Some.x.now c.in-Some.ensures.first refl refl in
    search (rules, moves-few, wanted_among, down_from, most_vertices, moves_among, s, step)

pub loop-x-preserved : goal.loop-x-preserved
loop-x-preserved c =
    let s = c.args.self.now in
    let x = c.in-Some.x.now in
    let rest = c.advance-some.new.self in
    let step : c.loop-x.left ≡ x ∷ rest = first_and_rest c.loop-x.left rest x x c.in-Some.ensures.first refl c.advance-some.ensures.rest in (
      All-tail (Contains (subsets_vectors s)) x rest (subst (All (Contains (subsets_vectors s))) step c.loop-x.invariant.0),
      omega (arith, c.count_from-counted.ensures, c.loop-x.invariant.1, ap (moves_among s.size_bits s.sum.bounds) step),
    )
