use Rattle.sgb_vec.proofs.BoxPlaces.{Contains-box}
use Rattle.sgb_vec.specs.inner.Rising.{box_vectors_rise}
use Rattle.sgb_vec.proofs.laws.boxes_are_families.Goals as goal

pub returns : goal.returns
returns c = record { members = Contains-box; rising = box_vectors_rise }
