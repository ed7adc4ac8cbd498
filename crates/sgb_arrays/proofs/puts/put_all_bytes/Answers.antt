use Rattle.std.proofs.Common.{◌∙◌}
use Rattle.sgb_arrays.proofs.PutValues.{put_from-all}
use Rattle.sgb_arrays.proofs.puts.put_all_bytes.Goals as goal

pub returns : goal.returns
returns c = c.put_bytes.ensures ∙ put_from-all c.args.bytes.now c.args.out.now c.requires
