use Rattle.std.proofs.Common.{ℕ, ◌≡◌, ◌∙◌, ◌++◌, ◌∷◌, [], ap, map, refl, sym, arith, rules, Contains}
use Rattle.std.specs.Prelude.{Some, slice_get}
use Rattle.std.proofs.lemmas.Option.{get_or_from_slice_get, slice_get_within}
use Rattle.sgb_gen.specs.LocalLists.{LocalArc, list_in}
use Rattle.sgb_arrays.proofs.LocalRuns.{row_said, tips_contained}
use Rattle.sgb_arrays.proofs.rows.Rows.push_listed.Goals as goal

pub arcs_at-requires : goal.arcs_at-requires
arcs_at-requires g c =
    let vectors = (g.L.Listed.graph c.args.listed.now).vectors in
    let member : Contains vectors c.args.x.now = (c.args.v, slice_get_within vectors c.args.v c.args.x.now c.requires.vertex, get_or_from_slice_get vectors c.args.v c.args.x.now c.args.x.now c.requires.vertex) in
    search rules

pub push_arcs-requires : goal.push_arcs-requires
push_arcs-requires g c =
    let tips : (k : ℕ) (arc : LocalArc) → slice_get c.arcs_at.new.links.arcs k ≡ Some arc → Contains (g.L.Listed.graph c.arcs_at.new.self).vectors arc.tip =
    tips_contained (g.L.Listed.graph c.args.listed.now) (g.L.Listed.graph c.arcs_at.new.self) c.arcs_at.new.links.arcs c.in_ok-arcs_at.ensures.same c.in_ok-arcs_at.ensures.tips in
    search rules

pub returns-clause-tips : goal.returns-clause-tips
returns-clause-tips g c =
    let listed = g.L.Listed.graph c.args.listed.now in
    let said = row_said listed (g.L.Listed.graph c.arcs_at.new.self) listed.vectors c.requires.rising refl c.requires.ends c.args.v c.args.x.now c.arcs_at.new.links.arcs
    c.in_ok-arcs_at.ensures.same c.in_ok-arcs_at.ensures.ok c.requires.vertex in
    rw (← said.tips) c.push_arcs.ensures.tips

pub returns-clause-lengths : goal.returns-clause-lengths
returns-clause-lengths g c =
    let listed = g.L.Listed.graph c.args.listed.now in
    let said = row_said listed (g.L.Listed.graph c.arcs_at.new.self) listed.vectors c.requires.rising refl c.requires.ends c.args.v c.args.x.now c.arcs_at.new.links.arcs
    c.in_ok-arcs_at.ensures.same c.in_ok-arcs_at.ensures.ok c.requires.vertex in
    rw (← said.lengths) c.push_arcs.ensures.lengths
