use Rattle.std.proofs.Common.{◌≤◌, ◌+◌, ◌∙◌, length, map, ap, refl, sym, arith}
use Rattle.std.proofs.lemmas.List.{length-map}
use Rattle.sgb_graph.specs.Graphs.{chain_of}
use Rattle.sgb_graph.specs.declared.fields.Link.{Link}
use Rattle.sgb_arrays.specs.Runs.{parts_of}
use Rattle.sgb_arrays.specs.inner.Packed.{lengths_kept}
use Rattle.sgb_arrays.proofs.CutRuns.{cut_rises, cut_size, cut_starts, cut_there, cut_values, cut_within}
use Rattle.sgb_arrays.proofs.packed.copy_rows.Goals as goal

pub arcs_in-requires : goal.arcs_in-requires
arcs_in-requires c =
    let g = c.args.graph.now in
    let n = length g.vertices in
    let first = c.args.first in
    let count = c.args.count in
    let there : first + count ≤ length g.vertices = omega (arith, c.if-not-is_there.ensures.there, c.n.ensures.count) in
    cut_there (chain_of g) n first count c.args.rows.now.starts.items there c.requires.starts_are

pub returns-then-not-have_row_places-clause-refused : goal.returns-then-not-have_row_places-clause-refused
returns-then-not-have_row_places-clause-refused c =
    let g = c.args.graph.now in
    let n = length g.vertices in
    let first = c.args.first in
    let count = c.args.count in
    let there : first + count ≤ length g.vertices = omega (arith, c.if-not-is_there.ensures.there, c.n.ensures.count) in
    let size = c.from-arcs.ensures ∙ c.arcs_in.ensures ∙ cut_size (chain_of g) n first count c.args.rows.now.starts.items there c.requires.starts_are in
    ((there, λ fit. c.if-not-have_row_places.ensures.other (fit.starts_fit, fit.tips_fit ∙ sym size, fit.lengths_fit ∙ sym size)), refl, refl, refl)

pub put_cut_tips-requires-clause-there : goal.put_cut_tips-requires-clause-there
put_cut_tips-requires-clause-there c =
    let g = c.args.graph.now in
    let n = length g.vertices in
    let first = c.args.first in
    let count = c.args.count in
    let there : first + count ≤ length g.vertices = omega (arith, c.if-not-is_there.ensures.there, c.n.ensures.count) in
    cut_there (chain_of g) n first count c.args.rows.now.starts.items there c.requires.starts_are

pub put_cut_tips-requires-clause-rising : goal.put_cut_tips-requires-clause-rising
put_cut_tips-requires-clause-rising c =
    let g = c.args.graph.now in
    let n = length g.vertices in
    let first = c.args.first in
    let count = c.args.count in
    let there : first + count ≤ length g.vertices = omega (arith, c.if-not-is_there.ensures.there, c.n.ensures.count) in
    cut_rises (chain_of g) n first count c.args.rows.now.starts.items there c.requires.starts_are

pub put_cut_tips-requires-clause-within : goal.put_cut_tips-requires-clause-within
put_cut_tips-requires-clause-within c =
    let g = c.args.graph.now in
    let n = length g.vertices in
    let first = c.args.first in
    let count = c.args.count in
    let there : first + count ≤ length g.vertices = omega (arith, c.if-not-is_there.ensures.there, c.n.ensures.count) in
    omega (arith, cut_within (chain_of g) n first count c.args.rows.now.starts.items there c.requires.starts_are, ap length c.requires.tips_are, length-map (parts_of (chain_of g) 0 n) (λ (l : Link). l.tip))

pub put_cut_lengths-requires-clause-rising : goal.put_cut_lengths-requires-clause-rising
put_cut_lengths-requires-clause-rising c =
    let g = c.args.graph.now in
    let n = length g.vertices in
    let first = c.args.first in
    let count = c.args.count in
    let there : first + count ≤ length g.vertices = omega (arith, c.if-not-is_there.ensures.there, c.n.ensures.count) in
    cut_rises (chain_of g) n first count c.args.rows.now.starts.items there c.requires.starts_are

pub put_cut_lengths-requires-clause-within : goal.put_cut_lengths-requires-clause-within
put_cut_lengths-requires-clause-within c =
    let g = c.args.graph.now in
    let n = length g.vertices in
    let first = c.args.first in
    let count = c.args.count in
    let there : first + count ≤ length g.vertices = omega (arith, c.if-not-is_there.ensures.there, c.n.ensures.count) in
    omega (arith, cut_within (chain_of g) n first count c.args.rows.now.starts.items there c.requires.starts_are, ap length c.requires.lengths_are, length-map (parts_of (chain_of g) 0 n) (λ (l : Link). l.len))

pub returns-clause-filled : goal.returns-clause-filled
returns-clause-filled c =
    let g = c.args.graph.now in
    let n = length g.vertices in
    let first = c.args.first in
    let count = c.args.count in
    let there : first + count ≤ length g.vertices = omega (arith, c.if-not-is_there.ensures.there, c.n.ensures.count) in
    let size = c.from-arcs.ensures ∙ c.arcs_in.ensures ∙ cut_size (chain_of g) n first count c.args.rows.now.starts.items there c.requires.starts_are in
    let (starts, tips, lengths) = c.if-not-have_row_places.ensures.fit in (
      there,
      record { starts_fit = starts; tips_fit = tips ∙ size; lengths_fit = lengths ∙ size },
      record {
        starts_are = c.put_cut_tips.ensures.starts ∙ cut_starts (chain_of g) n first count c.args.rows.now.starts.items there c.requires.starts_are;
        tips_are = c.put_cut_tips.ensures.tips ∙ cut_values (chain_of g) n first count c.args.rows.now.starts.items there c.requires.starts_are (λ (l : Link). l.tip) c.args.rows.now.tips.items c.requires.tips_are;
        lengths_are = c.put_cut_lengths.ensures ∙ cut_values (chain_of g) n first count c.args.rows.now.starts.items there c.requires.starts_are (λ (l : Link). l.len) (lengths_kept c.args.rows.now.lengths) c.requires.lengths_are;
      },
    )
