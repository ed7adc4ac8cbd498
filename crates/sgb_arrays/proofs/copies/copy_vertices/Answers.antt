use Rattle.std.proofs.Common.{◌∙◌, ap, sym, Some}
use Rattle.sgb_arrays.proofs.CopiedGraphs.{vertex_more}
use Rattle.sgb_arrays.proofs.copies.copy_vertices.Goals as goal

pub loop-v-preserved : goal.loop-v-preserved
loop-v-preserved c =
    vertex_more c.args.parts.now c.loop-v.parts c.add_vertex.new.self c.args.graph.now.vertices c.loop-v.v c.in_ok-vertex.vertex c.loop-v.invariant
    (c.vertex.ensures ∙ ap Some (sym c.in_ok-vertex.ensures.copy)) c.in_ok-add_vertex.ensures.ok
