use Rattle.std.proofs.Common.{◌≡◌, ◌≤◌, ◌<◌, ◌+◌, ℕ, ℤ, w64, to_z, of_z, length, refl, subst, arith, rules}
use Rattle.std.proofs.lemmas.Int.{to_z-of_z}
use Rattle.sgb_graph.specs.Draws.{IsAtDraw, seed_of, uniform_draws}
use Rattle.sgb_arrays.proofs.DrawsPut.{uniform_draws_put, uniform_put}
use Rattle.sgb_arrays.proofs.draws.put_uniform_draws.Goals as goal

pub loop-place-init : goal.loop-place-init
loop-place-init c =
    let start = to_z w64 (of_z w64 c.args.start) in
    let at = c.skip.ensures start 0 c.new-flip.ensures in
    let same : 0 + c.args.skip ≡ c.args.skip = omega arith in
    record {
      draws = (c.args.skip, subst (λ (k : ℕ). IsAtDraw start k c.skip.new.self.numbers c.skip.new.self.left) same at, grind arith);
      places = refl;
    }

pub loop-place-preserved : goal.loop-place-preserved
loop-place-preserved c =
    let start = to_z w64 (of_z w64 c.args.start) in
    let place = c.loop-place.place in
    let (k, stands, whole) = c.loop-place.invariant.draws in
    let (last, is, next) = c.below.ensures.stands start k stands in
    let within : place < length c.args.out.now = search rules in
    record {
      draws = (
        last + 1,
        next,
        uniform_put (seed_of start) c.args.m k c.below.result last place (length c.args.out.now) c.loop-place.out _ within c.requires.some c.requires.bound is whole,
      );
      places = search rules;
    }

pub returns : goal.returns
returns c =
    let past : length c.args.out.now ≤ c.loop-place.place = search rules in
    let (k, stands, whole) = c.loop-place.invariant.draws in
    let start = to_z w64 (of_z w64 c.args.start) in
    subst (λ (s : ℤ). c.loop-place.out ≡ uniform_draws (seed_of s) c.args.m c.args.skip (length c.args.out.now)) (to_z-of_z w64 c.args.start (search rules))
    (uniform_draws_put (seed_of start) c.args.m k c.args.skip c.loop-place.place (length c.args.out.now) c.loop-place.out c.args.out.now past refl whole)
