use Rattle.std.proofs.Common.{rules}
use Rattle.sgb_vec.proofs.FamilyVectors.{box_members_are_vectors}
use Rattle.sgb_vec.proofs.boxes.BoxFamilyFamily.dims.Goals as goal

pub returns-clause-vectors : goal.returns-clause-vectors
returns-clause-vectors c = search (rules, box_members_are_vectors)
