use Rattle.std.proofs.Common.{◌≡◌, ◌<◌, ◌≤◌, ◌+◌, ◌∙◌, [], Some, length, ap, refl, sym, arith, rules}
use Rattle.std.proofs.lemmas.List.{length-append}
use Rattle.std.proofs.lemmas.Option.{get_or_from_slice_get}
use Rattle.sgb_graph.specs.Vertices.{name_at, names_of}
use Rattle.sgb_arrays.specs.Runs.{part_starts, parts_of}
use Rattle.sgb_arrays.specs.inner.PartsLeft.{parts_left, starts_left}
use Rattle.sgb_arrays.specs.inner.Puts.{put_from}
use Rattle.sgb_arrays.proofs.PartsLeft.{parts_left-first, parts_left-none, parts_left-whole, starts_left-first, starts_left-none, starts_left-whole}
use Rattle.sgb_arrays.proofs.RunPlaces.{parts_by_place, starts_by_place}
use Rattle.sgb_arrays.proofs.RunSteps.{length-part_starts}
use Rattle.sgb_arrays.proofs.PutValues.{bytes_put, first_put, last_put, part_counted, put_from-all}
use Rattle.sgb_arrays.proofs.graph_names.put_names.Goals as goal

pub loop-k-init : goal.loop-k-init
loop-k-init c =
    let g = c.args.graph.now in
    let first = c.args.first in
    let count = c.args.count in
    let whole = parts_left-whole (λ j. name_at g (first + j)) count in
    record {
      starts = ap (λ xs. put_from 0 xs c.args.starts.now) (starts_left-whole (λ j. name_at g (first + j)) count);
      bytes = ap (λ xs. put_from 0 xs c.args.bytes.now) whole;
      end = omega (arith, ap length whole);
      start_places = refl;
      byte_places = refl;
    }

pub put_bytes-requires : goal.put_bytes-requires
put_bytes-requires c =
    let g = c.args.graph.now in
    let first = c.args.first in
    let count = c.args.count in
    let k = c.loop-k.k in
    let within : k < count = omega arith in
    let named = get_or_from_slice_get (names_of g) (first + k) _ [] (c.name.ensures ∙ ap Some (sym c.bytes-name.ensures.value)) in
    let here = ap length (parts_left-first (λ j. name_at g (first + j)) count k within) in
    let parts = length-append (name_at g (first + k)) (parts_left (λ j. name_at g (first + j)) count (k + 1)) in
    let whole = ap length (parts_by_place (name_at g) first count) in
    omega (arith, here, parts, whole, ap length named, c.loop-k.invariant.end, c.loop-k.invariant.byte_places, c.requires.lengths.bytes_fit)

pub overflow_add-at : goal.overflow_add-at
overflow_add-at c =
    let g = c.args.graph.now in
    let first = c.args.first in
    let count = c.args.count in
    let k = c.loop-k.k in
    let below : k < count = omega arith in
    let named = get_or_from_slice_get (names_of g) (first + k) _ [] (c.name.ensures ∙ ap Some (sym c.bytes-name.ensures.value)) in
    let here = ap length (parts_left-first (λ j. name_at g (first + j)) count k below) in
    let parts = length-append (name_at g (first + k)) (parts_left (λ j. name_at g (first + j)) count (k + 1)) in
    let whole = ap length (parts_by_place (name_at g) first count) in
    let within : c.loop-k.at + length c.bytes-name.result.now ≤ length c.loop-k.bytes = omega (arith, here, parts, whole, ap length named, c.loop-k.invariant.end, c.loop-k.invariant.byte_places, c.requires.lengths.bytes_fit) in
    search (rules, within)

pub loop-k-preserved : goal.loop-k-preserved
loop-k-preserved c =
    let g = c.args.graph.now in
    let first = c.args.first in
    let count = c.args.count in
    let k = c.loop-k.k in
    let at = c.loop-k.at in
    let within : k < count = omega arith in
    let named = get_or_from_slice_get (names_of g) (first + k) _ [] (c.name.ensures ∙ ap Some (sym c.bytes-name.ensures.value)) in
    let size = ap (λ name. at + length name) (sym named) in
    let here = parts_left-first (λ j. name_at g (first + j)) count k within in
    let later = parts_left (λ j. name_at g (first + j)) count (k + 1) in
    record {
      starts = first_put k at _ _ _ (starts_left (λ j. name_at g (first + j)) count (k + 1)) c.loop-k.starts _ (starts_left-first (λ j. name_at g (first + j)) count k at within) size c.loop-k.invariant.starts;
      bytes = bytes_put at _ (parts_left (λ j. name_at g (first + j)) count k) (name_at g (first + k)) _ later c.loop-k.bytes c.put_bytes.new.out _ here named refl c.put_bytes.ensures c.loop-k.invariant.bytes;
      end = part_counted at _ _ _ _ _ here (sym (ap length named)) c.loop-k.invariant.end;
      start_places = search rules;
      byte_places = search rules;
    }

pub returns : goal.returns
returns c =
    let g = c.args.graph.now in
    let first = c.args.first in
    let count = c.args.count in
    let k = c.loop-k.k in
    let last : k ≡ count = omega (arith, c.loop-k.auto.k-end) in
    let none = parts_left-none (λ j. name_at g (first + j)) count k (omega (arith, last)) in
    let all = parts_by_place (name_at g) first count in
    let fit : length c.args.bytes.now ≡ length (parts_of (λ j. name_at g (first + j)) 0 count) = omega (arith, c.requires.lengths.bytes_fit, ap length all) in
    record {
      starts_are = last_put k count c.loop-k.at _ c.loop-k.starts c.args.starts.now (part_starts (λ j. name_at g (first + j)) 0 count) last (starts_left-none (λ j. name_at g (first + j)) count k c.loop-k.at (omega (arith, last))) (omega (arith, c.requires.lengths.starts_fit, length-part_starts (λ j. name_at g (first + j)) 0 count)) c.loop-k.invariant.starts
          ∙ starts_by_place (name_at g) first count;
      bytes_are = ap (λ xs. put_from c.loop-k.at xs c.loop-k.bytes) (sym none) ∙ c.loop-k.invariant.bytes ∙ put_from-all (parts_of (λ j. name_at g (first + j)) 0 count) c.args.bytes.now fit ∙ all;
    }
