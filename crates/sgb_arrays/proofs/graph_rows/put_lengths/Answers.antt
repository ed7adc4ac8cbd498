use Rattle.std.proofs.Common.{◌≡◌, ◌∙◌, ◌≤◌, ◌<◌, ◌+◌, ℕ, List, length, map, ap, refl, sym, arith, rules}
use Rattle.std.proofs.lemmas.List.{length-append, length-map}
use Rattle.sgb_graph.specs.Graphs.{chain_of}
use Rattle.sgb_graph.specs.declared.fields.Link.{Link}
use Rattle.sgb_arrays.specs.Runs.{parts_of}
use Rattle.sgb_arrays.specs.inner.PartsLeft.{parts_left}
use Rattle.sgb_arrays.specs.inner.Puts.{put_from}
use Rattle.sgb_arrays.proofs.PartsLeft.{parts_left-first, parts_left-none, parts_left-whole}
use Rattle.sgb_arrays.proofs.RunPlaces.{parts_by_place}
use Rattle.sgb_arrays.proofs.PutValues.{all_put, part_counted, part_put}
use Rattle.sgb_arrays.proofs.graph_rows.put_lengths.Goals as goal

pub loop-k-init : goal.loop-k-init
loop-k-init c =
    let g = c.args.graph.now in
    let whole = parts_left-whole (λ j. chain_of g (c.args.first + j)) c.args.count in
    record {
      lengths = ap (λ ls. put_from 0 (map (λ (r : Link). r.len) ls) c.args.lengths.now) whole;
      end = omega (arith, ap length whole);
      places = refl;
    }

pub put_list_lengths-at-requires : goal.put_list_lengths-at-requires
put_list_lengths-at-requires c =
    let g = c.args.graph.now in
    let first = c.args.first in
    let count = c.args.count in
    let k = c.loop-k.k in
    let within : k < count = omega arith in
    let here = ap length (parts_left-first (λ j. chain_of g (first + j)) count k within) in
    let parts = length-append (chain_of g (first + k)) (parts_left (λ j. chain_of g (first + j)) count (k + 1)) in
    let whole = ap length (parts_by_place (chain_of g) first count) in
    record {
      vertex = omega (arith, c.requires.there, within);
      lengths = omega (arith, here, parts, whole, c.loop-k.invariant.end, c.loop-k.invariant.places, c.requires.length);
    }

pub loop-k-preserved : goal.loop-k-preserved
loop-k-preserved c =
    let g = c.args.graph.now in
    let first = c.args.first in
    let count = c.args.count in
    let k = c.loop-k.k in
    let at = c.loop-k.at in
    let within : k < count = omega arith in
    let here = parts_left-first (λ j. chain_of g (first + j)) count k within in
    let later = parts_left (λ j. chain_of g (first + j)) count (k + 1) in
    record {
      lengths = part_put (λ (r : Link). r.len) at c.put_list_lengths-at.result (parts_left (λ j. chain_of g (first + j)) count k) (chain_of g (first + k)) later c.loop-k.lengths c.put_list_lengths-at.new.lengths _ here c.put_list_lengths-at.ensures.end c.put_list_lengths-at.ensures.lengths c.loop-k.invariant.lengths;
      end = omega (arith, c.put_list_lengths-at.ensures.end, part_counted at (length (chain_of g (first + k))) _ _ _ _ here refl c.loop-k.invariant.end);
      places = search rules;
    }

pub returns : goal.returns
returns c =
    let g = c.args.graph.now in
    let first = c.args.first in
    let count = c.args.count in
    let k = c.loop-k.k in
    let past : count ≤ k = omega arith in
    let none = parts_left-none (λ j. chain_of g (first + j)) count k past in
    let all = parts_by_place (chain_of g) first count in
    all_put (λ (r : Link). r.len) c.loop-k.at (parts_left (λ j. chain_of g (first + j)) count k) c.loop-k.lengths c.args.lengths.now (map (λ (r : Link). r.len) (parts_of (λ j. chain_of g (first + j)) 0 count)) none
    (omega (arith, c.requires.length, ap length all, length-map (parts_of (λ j. chain_of g (first + j)) 0 count) (λ (r : Link). r.len))) c.loop-k.invariant.lengths
    ∙ ap (map (λ (r : Link). r.len)) all
