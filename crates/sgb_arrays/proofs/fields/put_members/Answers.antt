use Rattle.std.proofs.Common.{w64, to_z, of_z, ◌≡◌, ◌≤◌, ◌<◌, ◌+◌, ◌∙◌, ℕ, List, drop, length, pos, refl, take, arith, rules}
use Rattle.std.specs.Prelude.{slice_index}
use Rattle.std.proofs.lemmas.Int.{to_z-of_z}
use Rattle.sgb_gen.proofs.FamilyWalks.{at_front}
use Rattle.sgb_arrays.proofs.FieldValues.{length-run, run_at, value_put, values_begun, values_put}
use Rattle.sgb_arrays.proofs.LocalRuns.{left_after, some_front}
use Rattle.sgb_arrays.proofs.fields.put_members.Goals as goal

pub loop-k-init : goal.loop-k-init
loop-k-init g c =
    let members = g.F.Family.members c.args.family.now in
    record {
      ints = values_begun (λ (x : List ℕ). pos (slice_index x c.args.entry)) (take c.args.count (drop c.args.first members)) c.args.values.now;
      places = refl;
      left = grind (arith, c.vectors_from-left.ensures);
    }

pub unwrap-x-requires : goal.unwrap-x-requires
unwrap-x-requires g c =
    let members = g.F.Family.members c.args.family.now in
    let within : c.args.first + c.loop-k.k < length members = omega (arith, c.requires.there) in
    some_front c.front.result c.loop-k.left members (c.args.first + c.loop-k.k) c.loop-k.invariant.left within c.front.ensures.none

pub loop-k-preserved : goal.loop-k-preserved
loop-k-preserved g c =
    let members = g.F.Family.members c.args.family.now in
    let first = c.args.first in
    let count = c.args.count in
    let k = c.loop-k.k in
    let x = c.unwrap-x.result.now in
    let below : k < count = omega arith in
    let size = length-run members first count c.requires.there in
    let front = at_front members c.loop-k.left (first + k) x c.loop-k.invariant.left (rw c.unwrap-x.ensures at c.front.ensures.first) in
    let there = run_at members first count k x below c.requires.there front in
    record {
      ints = value_put (λ (y : List ℕ). pos (slice_index y c.args.entry)) (take count (drop first members)) k x (to_z w64 (of_z w64 c.entry_of.result)) c.loop-k.values _ (omega (arith, size, below)) there (to_z-of_z w64 c.entry_of.result (search rules) ∙ c.entry_of.ensures) c.loop-k.invariant.ints;
      places = search rules;
      left = left_after members c.loop-k.left c.advance-some.new.self first k c.loop-k.invariant.left c.advance-some.ensures.rest;
    }

pub returns : goal.returns
returns g c =
    let members = g.F.Family.members c.args.family.now in
    let first = c.args.first in
    let count = c.args.count in
    let size = length-run members first count c.requires.there in
    let past : length (take count (drop first members)) ≤ c.loop-k.k = omega (arith, size) in
    values_put (λ (y : List ℕ). pos (slice_index y c.args.entry)) (take count (drop first members)) c.loop-k.k c.loop-k.values c.args.values.now past (omega (arith, size, c.requires.size)) c.loop-k.invariant.ints
