use Rattle.sgb_vec.proofs.Common.{rules, drop_more}
use Rattle.sgb_gen.proofs.FamilyWalks.{drop_at_vector}
use Rattle.sgb_ops.specs.Entries.{names_of_copies}
use Rattle.sgb_ops.specs.inner.Entries.{own_names}
use Rattle.sgb_ops.specs.inner.Sources.{names_held}
use Rattle.sgb_ops.proofs.PlainLists.{part_more}
use Rattle.sgb_ops.proofs.induced_graphs.copied_names.push_own.Goals as goal

pub loop-v-preserved : goal.loop-v-preserved
loop-v-preserved c = search (rules, names_held, drop_more, part_more, names_of_copies, own_names, drop_at_vector)
