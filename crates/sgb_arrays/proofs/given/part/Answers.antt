use Rattle.std.proofs.Common.{length}
use Rattle.sgb_arrays.proofs.GivenLists.{table_at}
use Rattle.sgb_arrays.proofs.given.part.Goals as goal

pub slice_bounds-result-count : goal.slice_bounds-result-count
slice_bounds-result-count c = (table_at (length c.args.bytes.now) c.args.starts.now c.args.v c.requires.table c.requires.there).0

pub slice_bounds-result-start : goal.slice_bounds-result-start
slice_bounds-result-start c = (table_at (length c.args.bytes.now) c.args.starts.now c.args.v c.requires.table c.requires.there).0

pub slice_bounds-result-end : goal.slice_bounds-result-end
slice_bounds-result-end c = (table_at (length c.args.bytes.now) c.args.starts.now c.args.v c.requires.table c.requires.there).1
