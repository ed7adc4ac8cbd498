use Rattle.sgb_vec.proofs.Common.{rules, w64, to_z-of_z, length-take}
use Rattle.sgb_file.proofs.LineRecords.{named_parts, rest_is_line, vertex_counted, vertex_line}
use Rattle.sgb_file.proofs.reading.line_records.vertex_of_line.Goals as goal

pub slice_bounds-checksum_after-count : goal.slice_bounds-checksum_after-count
slice_bounds-checksum_after-count c = search (rules, named_parts)

pub checksum_after-before-requires : goal.checksum_after-before-requires
checksum_after-before-requires c = search (rules, length-take, named_parts)

pub fields_of_line-requires : goal.fields_of_line-requires
fields_of_line-requires c = search (rules, rest_is_line)

pub returns-clause-vertex : goal.returns-clause-vertex
returns-clause-vertex c =
    let x = to_z-of_z w64 c.in_ok-first.x (search rules) in
    let y = to_z-of_z w64 c.in_ok-first.y (search rules) in
    let z = to_z-of_z w64 c.in_ok-first.z (search rules) in
    rw (x, y, z) (vertex_line c.args.counts.now c.args.line.now _ _ _ _ _ _ c.requires c.in_ok-name.ensures c.in_ok-first.ensures.fields)

pub returns-clause-sum : goal.returns-clause-sum
returns-clause-sum c = search (rules, vertex_counted)
