use Rattle.std.proofs.Common.{◌≡◌, ◌∙◌, ap}
use Rattle.sgb_arrays.specs.inner.CopiedParts.{with_records, with_vertices}
use Rattle.sgb_arrays.proofs.CopiedGraphs.{checked_copy, checked_memory}
use Rattle.sgb_arrays.proofs.copies.copy_of.Goals as goal

pub returns-clause-copy : goal.returns-clause-copy
returns-clause-copy c =
    let g = c.args.graph.now in
    let same : c.copy_records.new.parts ≡ g = c.in_ok-copy_records.ensures.ok ∙ ap (with_records g.records) c.in_ok-copy_vertices.ensures.ok ∙ ap (λ p. with_records g.records (with_vertices g.vertices p)) c.in_ok-parts.ensures.parts in
    checked_copy g c.copy_records.new.parts c.check.result c.in_ok-parts.ensures.kept same c.check.ensures.value

pub returns-clause-memory : goal.returns-clause-memory
returns-clause-memory c =
    let g = c.args.graph.now in
    let same : c.copy_records.new.parts ≡ g = c.in_ok-copy_records.ensures.ok ∙ ap (with_records g.records) c.in_ok-copy_vertices.ensures.ok ∙ ap (λ p. with_records g.records (with_vertices g.vertices p)) c.in_ok-parts.ensures.parts in
    checked_memory g c.copy_records.new.parts c.check.result c.in_ok-parts.ensures.kept same c.check.ensures.value
