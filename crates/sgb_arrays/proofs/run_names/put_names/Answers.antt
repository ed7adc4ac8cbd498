use Rattle.std.proofs.Common.{◌≡◌, ◌<◌, ◌+◌, ap, length, arith}
use Rattle.sgb_arrays.specs.Runs.{parts_of, part_starts}
use Rattle.sgb_arrays.specs.inner.VectorNames.{name_there}
use Rattle.sgb_arrays.proofs.RunSteps.{parts_more, start_more}
use Rattle.sgb_arrays.proofs.LocalRuns.{left_after, name_is_there, some_front}
use Rattle.sgb_gen.proofs.FamilyWalks.{at_front}
use Rattle.sgb_arrays.proofs.run_names.put_names.Goals as goal

pub loop-k-init : goal.loop-k-init
unfolding parts_of part_starts
loop-k-init g c = record {
  starts = c.in_ok-names.ensures.starts;
  bytes = c.in_ok-names.ensures.bytes;
  left = grind (arith, c.vectors_from-left.ensures);
}

pub unwrap-x-requires : goal.unwrap-x-requires
unwrap-x-requires g c =
    let members = g.F.Family.members c.args.family.now in
    let within : c.args.first + c.loop-k._k < length members = omega (arith, c.requires) in
    some_front c.front.result c.loop-k.left members (c.args.first + c.loop-k._k) c.loop-k.invariant.left within c.front.ensures.none

pub loop-k-preserved : goal.loop-k-preserved
loop-k-preserved g c =
    let members = g.F.Family.members c.args.family.now in
    let first = c.args.first in
    let k = c.loop-k._k in
    let x = c.unwrap-x.result.now in
    let there = at_front members c.loop-k.left (first + k) x c.loop-k.invariant.left (rw c.unwrap-x.ensures at c.front.ensures.first) in
    let bytes : c.push.new.self.bytes.items ≡ parts_of (name_there members) first (k + 1) =
    rw (parts_more (name_there members) first k, ← name_is_there members (first + k) x there, ← c.loop-k.invariant.bytes) c.in_ok-push.ensures.bytes in
    record {
      starts = start_more (name_there members) first k c.loop-k.names.starts.items c.push.new.self.starts.items (length c.push.new.self.bytes.items) c.loop-k.invariant.starts (ap length bytes) c.in_ok-push.ensures.starts;
      bytes = bytes;
      left = left_after members c.loop-k.left c.advance-some.new.self first k c.loop-k.invariant.left c.advance-some.ensures.rest;
    }
