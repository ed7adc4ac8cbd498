use Rattle.std.proofs.Common.{◌≤◌, ◌<◌, ◌+◌, ◌∙◌, [], Some, length, ap, sym, arith}
use Rattle.std.proofs.lemmas.Option.{get_or_from_slice_get}
use Rattle.sgb_graph.specs.Vertices.{name_at, names_of}
use Rattle.sgb_arrays.proofs.PartsLeft.{parts_left-first, parts_left-none, parts_left-whole}
use Rattle.sgb_arrays.proofs.PutValues.{part_counted}
use Rattle.sgb_arrays.proofs.RunPlaces.{parts_by_place}
use Rattle.sgb_arrays.proofs.graph_names.count_bytes.Goals as goal

pub loop-k-init : goal.loop-k-init
loop-k-init c =
    let g = c.args.graph.now in
    record { count = omega (arith, ap length (parts_left-whole (λ j. name_at g (c.args.first + j)) c.args.count)); few = omega arith }

pub loop-k-preserved : goal.loop-k-preserved
loop-k-preserved c =
    let g = c.args.graph.now in
    let first = c.args.first in
    let count = c.args.count in
    let k = c.loop-k.k in
    let within : k < count = omega arith in
    let named = get_or_from_slice_get (names_of g) (first + k) _ [] (c.name.ensures ∙ ap Some (sym c.bytes.ensures.value)) in
    let size = sym (ap length named) in
    record {
      count = part_counted c.loop-k.bytes _ _ _ _ _ (parts_left-first (λ j. name_at g (first + j)) count k within) size c.loop-k.invariant.count;
      few = omega (arith, c.bytes.ensures.text.short, ap length c.bytes.ensures.value, c.loop-k.invariant.few);
    }

pub returns : goal.returns
returns c =
    let g = c.args.graph.now in
    let first = c.args.first in
    let count = c.args.count in
    let past : count ≤ c.loop-k.k = omega arith in
    omega (arith, c.loop-k.invariant.count, ap length (parts_left-none (λ j. name_at g (first + j)) count c.loop-k.k past), ap length (parts_by_place (name_at g) first count))
