use Rattle.sgb_ops.proofs.CompoundIds.{both_are_cut, both_fit, one_fits, one_is_cut}
use Rattle.sgb_ops.proofs.laws.compound_ids_law.Goals as goal

pub returns : goal.returns
returns c = record { one_fits = one_fits; one_is_cut = one_is_cut; both_fit = both_fit; both_are_cut = both_are_cut }
