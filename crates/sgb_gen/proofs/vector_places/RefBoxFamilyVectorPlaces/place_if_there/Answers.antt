use Rattle.std.proofs.Common.{sym}
use Rattle.sgb_vec.specs.Boxes.{box}
use Rattle.sgb_vec.proofs.BoxPlaces.{IsBelow-from_Contains}
use Rattle.sgb_vec.proofs.FamilyLaws.{box_vectors_rise}
use Rattle.sgb_gen.proofs.RisingVectors.{vertex_in_rising}
use Rattle.sgb_gen.proofs.vector_places.RefBoxFamilyVectorPlaces.place_if_there.Goals as goal

pub returns : goal.returns
returns c member =
    let sizes = c.args.self.now.now in
    let x = c.args.x.now in
    sym (vertex_in_rising (box sizes) c.place_if_there.result x (box_vectors_rise sizes) (c.place_if_there.ensures (IsBelow-from_Contains sizes x member)))
