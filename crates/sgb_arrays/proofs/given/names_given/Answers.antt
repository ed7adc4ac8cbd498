use Rattle.sgb_arrays.specs.Lists.{part_by_starts}
use Rattle.sgb_arrays.proofs.GivenLists.{name_more}
use Rattle.sgb_arrays.proofs.given.names_given.Goals as goal

pub loop-v-preserved : goal.loop-v-preserved
loop-v-preserved c =
    name_more (part_by_starts c.args.bytes.now c.args.starts.now) c.loop-v.v c.loop-v.names c.push_name.new.names c.part.result.now c.loop-v.invariant c.part.ensures c.in_ok-push_name.ensures
