use Rattle.std.proofs.Common.{◌≡◌, ◌≤◌, ◌<◌, ◌+◌, ℕ, List, length, ap, arith, rules}
use Rattle.sgb_graph.specs.Graphs.{chain_of}
use Rattle.sgb_arrays.proofs.PartsLeft.{parts_left-first, parts_left-none, parts_left-whole}
use Rattle.sgb_arrays.proofs.PutValues.{part_counted}
use Rattle.sgb_arrays.proofs.RunPlaces.{parts_by_place}
use Rattle.sgb_arrays.proofs.list_sizes.add_sizes.Goals as goal

pub loop-k-init : goal.loop-k-init
loop-k-init c =
    let g = c.args.graph.now in
    record {
      count = omega (arith, ap length (parts_left-whole (λ k. chain_of g (c.args.first + k)) c.args.count));
      few = omega arith;
    }

pub loop-k-preserved : goal.loop-k-preserved
loop-k-preserved c =
    let g = c.args.graph.now in
    let first = c.args.first in
    let k = c.loop-k.k in
    let within : k < c.args.count = omega arith in
    let size : c.from-arcs.result ≡ length (chain_of g (first + k)) = omega (arith, c.from-arcs.ensures, c.requires.sizes.known (first + k) (omega arith)) in
    record {
      count = part_counted c.loop-k.arcs c.from-arcs.result _ _ _ _ (parts_left-first (λ j. chain_of g (first + j)) c.args.count k within) size c.loop-k.invariant.count;
      few = omega (arith, c.from-arcs.ensures, c.loop-k.invariant.few);
    }

pub returns : goal.returns
returns c =
    let g = c.args.graph.now in
    let first = c.args.first in
    let past : c.args.count ≤ c.loop-k.k = omega arith in
    omega (arith, c.loop-k.invariant.count, ap length (parts_left-none (λ j. chain_of g (first + j)) c.args.count c.loop-k.k past), ap length (parts_by_place (chain_of g) first c.args.count))
