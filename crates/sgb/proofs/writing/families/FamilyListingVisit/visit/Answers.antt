use Rattle.std.proofs.Common.{refl, sym}
use Rattle.sgb.proofs.writing.families.FamilyListingVisit.visit.Goals as goal

pub list_vectors-requires : goal.list_vectors-requires
list_vectors-requires g c = (λ k. ((refl, tt), (c.requires.0, c.requires.1)))

pub returns : goal.returns
returns g c = (c.list_vectors.ensures.written, c.list_vectors.ensures.subsets, c.list_vectors.ensures.simplex, c.list_vectors.ensures.untouched)
