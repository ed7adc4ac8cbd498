use Rattle.std.proofs.Common.{refl}
use Rattle.sgb_file.specs.inner.Layouts.{place_of, places}
use Rattle.sgb_file.proofs.checksums.places.Goals as goal

pub returns : goal.returns
unfolding place_of places
returns c = refl
