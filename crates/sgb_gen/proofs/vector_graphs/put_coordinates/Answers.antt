use Rattle.std.proofs.Common.{◌≡◌, ℤ, pos, to_z, of_z, w64, slice_index, length, ap, ◌∙◌, arith, rules}
use Rattle.std.proofs.lemmas.List.{length-map}
use Rattle.std.proofs.lemmas.Option.{slice_get_within}
use Rattle.std.proofs.lemmas.Int.{to_z-of_z}
use Rattle.sgb_gen.proofs.Coordinates.{PutsCoordinates, coordinates-more}
use Rattle.sgb_gen.proofs.FamilyWalks.{at_front, next_left}
use Rattle.sgb_gen.proofs.vector_graphs.put_coordinates.Goals as goal

pub loop-u-preserved : goal.loop-u-preserved
loop-u-preserved g c =
    let vectors = g.F.Family.members c.args.family.now in
    let v = c.in-Some.vector.now in
    let u = c.loop-u.u in
    let here = at_front vectors c.loop-u.left u v c.loop-u.invariant.0 c.in-Some.ensures.first in
    let read : ℤ → ℤ = λ n. to_z w64 (of_z w64 n) in
    let x : read c.entry-x.result ≡ pos (slice_index v 0) = to_z-of_z w64 c.entry-x.result (search rules) ∙ c.entry-x.ensures in
    let y : read c.entry-y.result ≡ pos (slice_index v 1) = to_z-of_z w64 c.entry-y.result (search rules) ∙ c.entry-y.ensures in
    let z : read c.entry-z.result ≡ pos (slice_index v 2) = to_z-of_z w64 c.entry-z.result (search rules) ∙ c.entry-z.ensures in
    let now = c.loop-u.graph in
    let new = c.set_vertex_ints.new.self in
    let h = c.in_ok-set_vertex_ints.ensures in
    let put : PutsCoordinates u v now new = record { whole = cc h.«data»; chains = h.chains; names = h.names; fields = cc h.fields } in (
      next_left vectors c.loop-u.left c.advance-some.new.self u c.loop-u.invariant.0 c.advance-some.ensures.rest,
      coordinates-more vectors u v c.args.graph.now now new here c.loop-u.invariant.1 put,
    )

pub set_vertex_ints-requires : goal.set_vertex_ints-requires
set_vertex_ints-requires g c =
    let vectors = g.F.Family.members c.args.family.now in
    let here = at_front vectors c.loop-u.left c.loop-u.u c.in-Some.vector.now c.loop-u.invariant.0 c.in-Some.ensures.first in
    let same = simp length-map at (ap length c.loop-u.invariant.1.names) in
    omega (arith, slice_get_within vectors c.loop-u.u c.in-Some.vector.now here, c.requires.vertices, same)
