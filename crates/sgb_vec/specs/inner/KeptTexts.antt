-- How a text keeps its bytes.
use Rattle.std.specs.Prelude.{ℕ, List}
use Rattle.sgb_vec.specs.declared.texts.Bytes.{Bytes}
use Rattle.sgb_vec.specs.declared.texts.Bytes.TheVariants.{Few, Many}

-- the bytes, wherever they stand
abbrev pub bytes_kept : Bytes → List ℕ
bytes_kept (Few bytes) = bytes
bytes_kept (Many bytes) = bytes.items
