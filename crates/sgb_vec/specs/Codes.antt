-- The panic codes of GB_GRAPH.
use Rattle.std.specs.Prelude.{ℕ}
use Rattle.sgb_vec.specs.declared.panics.Panic.{Panic}
use Rattle.sgb_vec.specs.declared.panics.Panic.TheVariants.{NoRoom, Early, Late, Syntax, Bad, VeryBad, Invalid}

-- the number that GraphBase prints for a panic
abbrev pub code_of : Panic → ℕ
code_of NoRoom = 1
code_of Early = 10
code_of Late = 11
code_of Syntax = 20
code_of Bad = 30
code_of VeryBad = 40
code_of Invalid = 60
