use Rattle.std.proofs.Common.{rules}
use Rattle.sgb_file.specs.Checksum.{checksum_prime}
use Rattle.sgb_file.specs.inner.Layouts.{value_from}
use Rattle.sgb_file.proofs.ChecksumLemmas.{few_counted}
use Rattle.sgb_file.proofs.checksums.checksum_after.Goals as goal

pub returns : goal.returns
returns c = search (rules, checksum_prime, few_counted, value_from)
