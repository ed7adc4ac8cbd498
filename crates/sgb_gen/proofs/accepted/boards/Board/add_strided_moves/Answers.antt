use Rattle.std.proofs.Common.{◌≡◌, ◌∙◌, ap, length, map, arith, subst, sym}
use Rattle.std.specs.Prelude.{OnOk}
use Rattle.std.proofs.lemmas.Option.{slice_get_within}
use Rattle.sgb_vec.specs.Boxes.{box}
use Rattle.sgb_vec.proofs.BoxPlaces.{length-box}
use Rattle.sgb_graph.specs.Growth.{AddsEvents}
use Rattle.sgb_moves.specs.MovedCoordinates.{parts_of}
use Rattle.sgb_gen.specs.inner.StridedMoves.{IsFarthest}
use Rattle.sgb_gen.proofs.StridedMoves.{stride_events, tips_within}
use Rattle.sgb_gen.proofs.Vertices.{below_in_box}
use Rattle.sgb_gen.proofs.accepted.boards.Board.add_strided_moves.Goals as goal

pub reach_by-farthest-requires-clause-below : goal.reach_by-farthest-requires-clause-below
reach_by-farthest-requires-clause-below c = below_in_box c.args.self.now.sizes c.args.x.now c.args.u c.requires.vertex

pub add_run-requires-clause-vertex : goal.add_run-requires-clause-vertex
add_run-requires-clause-vertex c = omega (arith, c.requires.vertices, slice_get_within (box c.args.self.now.sizes) c.args.u c.args.x.now c.requires.vertex)

pub add_run-requires-clause-tips : goal.add_run-requires-clause-tips
add_run-requires-clause-tips c l some few =
    let b = c.args.self.now in
    let n = c.reach_by-farthest.result in
    let far = subst (λ ps. IsFarthest b c.args.x.now ps n) c.parts.ensures.parts c.reach_by-farthest.ensures in
    omega (arith, tips_within b c.args.x.now c.args.t.now c.args.u c.args.places n c.requires.dimensions c.requires.places c.requires.vertex far l some few, length-box b.sizes, c.requires.vertices)

pub add_run-requires-clause-few : goal.add_run-requires-clause-few
add_run-requires-clause-few c l some few =
    let b = c.args.self.now in
    let n = c.reach_by-farthest.result in
    let far = subst (λ ps. IsFarthest b c.args.x.now ps n) c.parts.ensures.parts c.reach_by-farthest.ensures in
    omega (arith, tips_within b c.args.x.now c.args.t.now c.args.u c.args.places n c.requires.dimensions c.requires.places c.requires.vertex far l some few, c.requires.places.few)

pub returns-clause-ok : goal.returns-clause-ok
returns-clause-ok c =
    let b = c.args.self.now in
    let n = c.reach_by-farthest.result in
    let far = subst (λ ps. IsFarthest b c.args.x.now ps n) c.parts.ensures.parts c.reach_by-farthest.ensures in
    subst (λ es. OnOk c.add_run.result (AddsEvents b.directed c.args.graph.now c.add_run.new.graph es))
    (sym (stride_events b c.args.x.now c.args.t.now c.args.u c.args.places n c.requires.dimensions c.requires.places c.requires.vertex far)) c.add_run.ensures.ok
