use Rattle.std.proofs.Common.{◌≡◌, ◌≤◌, ◌<◌, ◌+◌, ℕ, ℤ, w64, to_z, of_z, length, refl, sym, subst, arith, rules}
use Rattle.std.proofs.lemmas.Int.{to_z-of_z}
use Rattle.sgb_graph.specs.Draws.{IsAtDraw, plain_draws, seed_of}
use Rattle.sgb_arrays.proofs.DrawsPut.{draw_put, draws_put}
use Rattle.sgb_arrays.proofs.draws.fill_draws.Goals as goal

pub loop-place-init : goal.loop-place-init
loop-place-init c =
    let start = to_z w64 (of_z w64 c.args.start) in
    let at = c.skip.ensures start 0 c.new-flip.ensures in
    let same : 0 + c.args.skip ≡ c.args.skip + 0 = omega arith in
    record {
      stands = subst (λ (k : ℕ). IsAtDraw start k c.skip.new.self.numbers c.skip.new.self.left) same at;
      draws = grind arith;
      places = refl;
    }

pub loop-place-preserved : goal.loop-place-preserved
loop-place-preserved c =
    let start = to_z w64 (of_z w64 c.args.start) in
    let place = c.loop-place.place in
    let k = c.args.skip + place in
    let drawn = c.draw.ensures.stands start k c.loop-place.invariant.stands in
    let within : place < length c.args.out.now = search rules in
    let next : k + 1 ≡ c.args.skip + (place + 1) = omega arith in
    record {
      stands = subst (λ (j : ℕ). IsAtDraw start j c.draw.new.self.numbers c.draw.new.self.left) next drawn.1;
      draws = draw_put (seed_of start) k (c.args.skip + (place + 1)) c.draw.result place (length c.args.out.now) c.loop-place.out _ (sym next) within drawn.0 c.loop-place.invariant.draws;
      places = search rules;
    }

pub returns : goal.returns
returns c =
    let past : length c.args.out.now ≤ c.loop-place.place = search rules in
    let start = to_z w64 (of_z w64 c.args.start) in
    subst (λ (s : ℤ). c.loop-place.out ≡ plain_draws (seed_of s) c.args.skip (length c.args.out.now)) (to_z-of_z w64 c.args.start (search rules))
    (draws_put (seed_of start) (c.args.skip + c.loop-place.place) c.args.skip c.loop-place.place (length c.args.out.now) c.loop-place.out c.args.out.now past refl c.loop-place.invariant.draws)
