use Rattle.std.proofs.Common.{◌<◌, ◌+◌, ap, refl, length, length-append, arith}
use Rattle.sgb_arrays.specs.Runs.{parts_of}
use Rattle.sgb_arrays.specs.inner.VectorNames.{name_there}
use Rattle.sgb_arrays.proofs.RunSteps.{parts_more}
use Rattle.sgb_arrays.proofs.LocalRuns.{left_after, name_is_there, some_front}
use Rattle.sgb_gen.proofs.FamilyWalks.{at_front}
use Rattle.sgb_arrays.proofs.run_names.count_bytes.Goals as goal

pub loop-k-init : goal.loop-k-init
unfolding parts_of
loop-k-init g c = record {
  counted = refl;
  few = omega arith;
  left = grind (arith, c.vectors_from-left.ensures);
}

pub unwrap-x-requires : goal.unwrap-x-requires
unwrap-x-requires g c =
    let members = g.F.Family.members c.args.family.now in
    let within : c.args.first + c.loop-k._k < length members = omega (arith, c.requires) in
    some_front c.front.result c.loop-k.left members (c.args.first + c.loop-k._k) c.loop-k.invariant.left within c.front.ensures.none

pub loop-k-preserved : goal.loop-k-preserved
loop-k-preserved g c =
    let members = g.F.Family.members c.args.family.now in
    let first = c.args.first in
    let k = c.loop-k._k in
    let x = c.unwrap-x.result.now in
    let there = at_front members c.loop-k.left (first + k) x c.loop-k.invariant.left (rw c.unwrap-x.ensures at c.front.ensures.first) in
    let own = ap length (name_is_there members (first + k) x there) in
    record {
      counted = omega (arith, c.name_len-bytes.ensures.value, own, c.loop-k.invariant.counted, ap length (parts_more (name_there members) first k), length-append (parts_of (name_there members) first k) (name_there members (first + k)));
      few = omega (arith, c.name_len-bytes.ensures.short, c.loop-k.invariant.few);
      left = left_after members c.loop-k.left c.advance-some.new.self first k c.loop-k.invariant.left c.advance-some.ensures.rest;
    }
