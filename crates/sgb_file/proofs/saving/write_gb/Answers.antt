use Rattle.sgb_vec.proofs.Common.{rules, refl, ap, map, arith, ◌≡◌, err_from_is_err_and}
use Rattle.sgb_graph.specs.Kinds.{letter_of}
use Rattle.sgb_file.specs.Checksum.{checksum_of_lines}
use Rattle.sgb_file.specs.Saving.{middle_lines}
use Rattle.sgb_file.proofs.WrittenPrefixes.{put_after, prefix_more, prefix_after}
use Rattle.sgb_file.proofs.SavedGraphs.{six_fields}
use Rattle.sgb_file.proofs.WholeText.{text-parts, checksum-whole}
use Rattle.sgb_file.proofs.saving.write_gb.Goals as goal

pub returns-in_err-put_head-clause-put : goal.returns-in_err-put_head-clause-put
returns-in_err-put_head-clause-put g c =
    let p = err_from_is_err_and c.from_residual.result c.from_residual.ensures.1 in
    let graph = c.args.graph.now in
    let err = c.in_err-put_head.ensures.put in
    let whole = text-parts graph _ _ (checksum_of_lines (middle_lines graph)) c.n-n.ensures.count c.records_len.ensures refl in
    rw (p.1, whole, ← c.kinds-kinds.ensures) (prefix_more _ _ _ _ err.0, err.1)

pub put_records-requires-clause-fields : goal.put_records-requires-clause-fields
put_records-requires-clause-fields g c = search (rules, six_fields)

pub returns-in_err-put_records-clause-put : goal.returns-in_err-put_records-clause-put
returns-in_err-put_records-clause-put g c =
    let p = err_from_is_err_and c.from_residual-in_err-put_records.result c.from_residual-in_err-put_records.ensures.1 in
    let graph = c.args.graph.now in
    let err = c.in_err-put_records.ensures in
    let whole = text-parts graph _ _ (checksum_of_lines (middle_lines graph)) c.n-n.ensures.count c.records_len.ensures refl in
    rw (p.1, whole, ← ap (map letter_of) c.kinds-kinds.ensures) (prefix_after _ _ _ _ _ c.in_ok-put_head.ensures.put (prefix_more _ _ _ _ err.written), err.failed)

pub returns-clause-put : goal.returns-clause-put
returns-clause-put g c =
    let graph = c.args.graph.now in
    let laid = c.in_ok-put_records.ensures.0 in
    let sum : c.checksum.result ≡ checksum_of_lines (middle_lines graph) = grind (arith, laid.checksum, checksum-whole (middle_lines graph)) in
    let whole = text-parts graph _ _ _ c.n-n.ensures.count c.records_len.ensures sum in
    rw (whole, ← ap (map letter_of) c.kinds-kinds.ensures) (put_after _ _ _ _ _ _ _ c.in_ok-put_head.ensures.put (put_after _ _ _ _ _ _ _ laid.written c.put_checksum.ensures.put))
