use Rattle.sgb_vec.proofs.Common.{rules, w64, to_z, of_z, ap, ◌∙◌, to_z-of_z, on_ok_weaker}
use Rattle.sgb_graph.specs.Parts.{vertex_with_ints, with_vertex}
use Rattle.sgb_file.proofs.LineRecords.{plain_vertex_read}
use Rattle.sgb_file.proofs.reading.records.read_vertex.Goals as goal

pub returns-in-Ok-clause-ok : goal.returns-in-Ok-clause-ok
returns-in-Ok-clause-ok c =
    let v = c.in-Some.vertex in
    let name = c.in-Ok.name in
    let same = ap (λ i. vertex_with_ints name v.first i (to_z w64 (of_z w64 v.y)) (to_z w64 (of_z w64 v.z))) (to_z-of_z w64 v.x (search rules))
    ∙ (ap (λ j. vertex_with_ints name v.first v.x j (to_z w64 (of_z w64 v.z))) (to_z-of_z w64 v.y (search rules)) ∙ ap (vertex_with_ints name v.first v.x v.y) (to_z-of_z w64 v.z (search rules))) in
    on_ok_weaker c.add_vertex_with_ints.result
    (λ added. rw c.next_line_with.ensures
    (plain_vertex_read c.args.head.now c.args.lines.now v.name.now c.in-Ok.name v.first v.x v.y v.z v.sum c.args.parts.now
    c.add_vertex_with_ints.new.self c.in-Some.ensures (search rules) (search rules) (added ∙ ap (λ u. with_vertex u c.args.parts.now) same)))
    c.add_vertex_with_ints.ensures.ok
