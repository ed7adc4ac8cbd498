use Rattle.sgb_gen.specs.inner.Laws.{DisplacementsHaveTheirNorm}
use Rattle.sgb_gen.proofs.Norms.{All-displacements}
use Rattle.sgb_gen.proofs.laws.displacements_have_their_norm.Goals as goal

pub returns : goal.returns
returns c = let law : DisplacementsHaveTheirNorm = All-displacements in law
