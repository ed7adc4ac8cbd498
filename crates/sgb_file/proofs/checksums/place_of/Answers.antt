use Rattle.sgb_file.proofs.ChecksumLemmas.{place_in_table}
use Rattle.sgb_file.proofs.checksums.place_of.Goals as goal

pub returns : goal.returns
returns c = rw (c.places.ensures, c.from.ensures) (place_in_table c.args.byte 0 c.ranges.byte.fits)
