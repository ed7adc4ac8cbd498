use Rattle.std.proofs.Common.{w64, to_z, of_z, ◌≡◌, ◌≤◌, ◌<◌, ◌∙◌, drop, length, refl, take, arith, rules}
use Rattle.std.proofs.lemmas.Int.{to_z-of_z}
use Rattle.sgb_arrays.specs.Fields.{ints_of}
use Rattle.sgb_arrays.specs.inner.Fields.{int_at}
use Rattle.sgb_arrays.proofs.FieldValues.{length-run, run_at, value_put, values_begun, values_put}
use Rattle.sgb_arrays.proofs.fields.put_ints.Goals as goal

pub loop-k-init : goal.loop-k-init
loop-k-init c = record { ints = values_begun (int_at c.args.field) (take c.args.count (drop c.args.first c.args.graph.now.vertices)) c.args.values.now; places = refl }

pub loop-k-preserved : goal.loop-k-preserved
loop-k-preserved c =
    let xs = c.args.graph.now.vertices in
    let first = c.args.first in
    let count = c.args.count in
    let k = c.loop-k.k in
    let below : k < count = omega arith in
    let size = length-run xs first count c.requires.there in
    let there = run_at xs first count k _ below c.requires.there c.vertex.ensures in
    record {
      ints = value_put (int_at c.args.field) (take count (drop first xs)) k _ (to_z w64 (of_z w64 c.int_at.result)) c.loop-k.values _ (omega (arith, size, below)) there (to_z-of_z w64 c.int_at.result (search rules) ∙ c.int_at.ensures) c.loop-k.invariant.ints;
      places = search rules;
    }

pub returns : goal.returns
unfolding ints_of
returns c =
    let xs = c.args.graph.now.vertices in
    let first = c.args.first in
    let count = c.args.count in
    let size = length-run xs first count c.requires.there in
    let past : length (take count (drop first xs)) ≤ c.loop-k.k = omega (arith, size) in
    values_put (int_at c.args.field) (take count (drop first xs)) c.loop-k.k c.loop-k.values c.args.values.now past (omega (arith, size, c.requires.size)) c.loop-k.invariant.ints
