use Rattle.std.proofs.Common.{sym, rules}
use Rattle.sgb_file.proofs.LineRecords.{if_some_both}
use Rattle.sgb_file.proofs.reading.records.plain_vertex.Goals as goal

pub returns : goal.returns
returns c =
    let line = c.in_ok-line.line.now in
    if_some_both c.vertex_of_line.result _ _ _
    (λ v vertex sum. record { kinds = search rules; line = line; whole = c.in_ok-line.ensures.whole; vertex = vertex; counted = rw (sym c.checksum.ensures) sum })
    (rw (sym c.head.view_is) c.vertex_of_line.ensures.vertex) c.vertex_of_line.ensures.sum
