use Rattle.std.proofs.Common.{arith}
use Rattle.sgb_file.specs.Checksum.{checksum_prime}
use Rattle.sgb_file.proofs.ChecksumLemmas.{running_from}
use Rattle.sgb_file.proofs.laws.running_checksum_law.Goals as goal

pub returns : goal.returns
returns c bytes = grind (arith, running_from checksum_prime (omega arith) bytes 0 (omega arith))
