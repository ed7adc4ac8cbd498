use Rattle.std.proofs.Common.{◌≡◌, ◌-◌, true, false, length, sym, rules}
use Rattle.sgb_vec.specs.Limits.{most_bytes}
use Rattle.sgb_arrays.specs.Lists.{part_by_starts}
use Rattle.sgb_arrays.specs.Given.{is_text_of}
use Rattle.sgb_arrays.proofs.GivenLists.{name_fails, name_passes}
use Rattle.sgb_arrays.proofs.given.are_names.Goals as goal

pub returns-then-not-is_text_of : goal.returns-then-not-is_text_of
returns-then-not-is_text_of c =
    let none : is_text_of most_bytes (part_by_starts c.args.bytes.now c.args.starts.now c.loop-v.v) ≡ false = search rules in
    sym (name_fails (is_text_of most_bytes) (part_by_starts c.args.bytes.now c.args.starts.now) c.loop-v.v (length c.args.starts.now - 1) (search rules) none)

pub loop-v-preserved : goal.loop-v-preserved
loop-v-preserved c =
    let one : is_text_of most_bytes (part_by_starts c.args.bytes.now c.args.starts.now c.loop-v.v) ≡ true = search rules in
    name_passes (is_text_of most_bytes) (part_by_starts c.args.bytes.now c.args.starts.now) c.loop-v.v c.loop-v.invariant one
