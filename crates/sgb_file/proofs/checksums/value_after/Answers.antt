use Rattle.std.proofs.Common.{rules, refl}
use Rattle.sgb_file.specs.inner.Layouts.{value_from}
use Rattle.sgb_file.proofs.ChecksumLemmas.{byte_valued}
use Rattle.sgb_file.proofs.checksums.value_after.Goals as goal

pub loop-byte-init : goal.loop-byte-init
unfolding value_from
loop-byte-init c = refl

pub loop-byte-preserved : goal.loop-byte-preserved
loop-byte-preserved c = search (rules, byte_valued)
