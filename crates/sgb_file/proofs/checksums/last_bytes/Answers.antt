use Rattle.sgb_vec.proofs.Common.{rules, length-drop, length-take, take-append-drop, mod_below}
use Rattle.sgb_file.specs.Checksum.{checksum_prime}
use Rattle.sgb_file.specs.inner.Layouts.{checksum_from, value_from}
use Rattle.sgb_file.proofs.ChecksumLemmas.{few_counted}
use Rattle.sgb_file.proofs.LaidLines.{checksum_from-append}
use Rattle.sgb_file.proofs.checksums.last_bytes.Goals as goal

pub loop-rest-preserved : goal.loop-rest-preserved
loop-rest-preserved c = search (rules, checksum_from, checksum_from-append, checksum_prime, few_counted, length-drop, length-take, mod_below, take-append-drop, value_from)
