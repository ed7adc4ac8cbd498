use Rattle.std.proofs.Common.{rules, ◌≤◌, [], length, sym, arith}
use Rattle.sgb_vec.specs.Limits.{most_vertices}
use Rattle.sgb_vec.proofs.SumMembers.{Contains-bounded_sums}
use Rattle.sgb_gen.specs.Subsets.{subsets_vectors}
use Rattle.sgb_gen.specs.inner.Descents.{down_from}
use Rattle.sgb_gen.proofs.SubsetsCounts.{arcs-counted, few-from}
use Rattle.sgb_gen.proofs.accepted.subsets.Subsets.count_from.Goals as goal

pub returns : goal.returns
returns c =
    let s = c.args.self.now in
    let x = c.args.x.now in
    let counted = arcs-counted {S = Unit {0}} s.size_bits [] 0 x c.push_earlier-all.result _ _ tt tt (down_from s.sum.bounds x) c.push_earlier-all.ensures.given (omega arith) in
    let is = (Contains-bounded_sums s.sum.total s.sum.bounds x).0 c.requires in
    let small : length (subsets_vectors s) ≤ most_vertices = search rules in
    omega (arith, counted, few-from s.size_bits 0 s.sum.total most_vertices s.sum.bounds x is.0 (sym is.1) small)
