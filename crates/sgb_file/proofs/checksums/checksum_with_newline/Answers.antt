use Rattle.std.proofs.Common.{arith, [], ◌∷◌, ◌++◌, length-append}
use Rattle.sgb_file.proofs.ChecksumLemmas.{few_counted}
use Rattle.sgb_file.proofs.LaidLines.{checksum_from-append}
use Rattle.sgb_file.proofs.checksums.checksum_with_newline.Goals as goal

pub returns : goal.returns
returns c =
    let rest = c.last_bytes-after.result.1.now in
    let counted = few_counted c.last_bytes-after.result.0 c.remainder.result (rest ++ 10 ∷ []) in
    grind (arith, length-append, counted, checksum_from-append, c.last_bytes-after.type_inv, c.last_bytes-after.ensures, c.remainder.ensures, c.value_with_newline.ensures)
