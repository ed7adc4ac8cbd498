-- Functions that give the value of `stdin`.
use Rattle.std.specs.Prelude.{ℕ, List, Result}
use Rattle.sgb_vec.specs.declared.panics.Panic.{Panic}
use Rattle.sgb_graph.specs.Graphs.{GraphData}
use Rattle.sgb_values.specs.Values.{IsStdinValue}

-- a function that gives, for all that standard input may have, the value of `stdin`
abbrev pub GivesStdin : (List ℕ → Result GraphData Panic) → Type 0
GivesStdin stdin = (input : List ℕ) → IsStdinValue input (stdin input)
