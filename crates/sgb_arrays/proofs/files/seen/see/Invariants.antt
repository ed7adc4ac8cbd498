use Rattle.std.proofs.Common.{◌++◌}
use Rattle.sgb_arrays.proofs.files.seen.see.Given as goal

-- the bytes before, and these
abbrev pub ghost-of : goal.ghost-of
ghost-of a = a._told.now.0.now.bytes ++ a._told.now.1.now
