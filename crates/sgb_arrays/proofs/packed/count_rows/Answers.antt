use Rattle.std.proofs.Common.{◌≤◌, ◌+◌, ◌∙◌, length, map, ap, refl, sym, arith}
use Rattle.std.proofs.lemmas.List.{length-map}
use Rattle.sgb_graph.specs.Graphs.{chain_of}
use Rattle.sgb_graph.specs.declared.fields.Link.{Link}
use Rattle.sgb_arrays.specs.Runs.{parts_of}
use Rattle.sgb_arrays.proofs.CutRuns.{cut_size, cut_there}
use Rattle.sgb_arrays.proofs.packed.count_rows.Goals as goal

pub arcs_in-requires : goal.arcs_in-requires
arcs_in-requires c =
    let g = c.args.graph.now in
    let n = length g.vertices in
    let first = c.args.first in
    let count = c.args.count in
    let there : first + count ≤ length g.vertices = omega (arith, c.if-not-is_there.ensures.there, c.n.ensures.count) in
    cut_there (chain_of g) n first count c.args.rows.now.starts.items there c.requires.starts_are

pub returns-clause-count : goal.returns-clause-count
returns-clause-count c =
    let g = c.args.graph.now in
    let n = length g.vertices in
    let first = c.args.first in
    let count = c.args.count in
    let there : first + count ≤ length g.vertices = omega (arith, c.if-not-is_there.ensures.there, c.n.ensures.count) in
    (there, c.from.ensures ∙ c.arcs_in.ensures ∙ cut_size (chain_of g) n first count c.args.rows.now.starts.items there c.requires.starts_are)
