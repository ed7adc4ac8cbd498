use Rattle.sgb_vec.proofs.Common.{◌≡◌, map, take}
use Rattle.sgb_graph.specs.Growth.{number_or_zero}
use Rattle.sgb_graph.specs.inner.Columns.{values}
use Rattle.sgb_graph.specs.declared.fields.Util.TheVariants.{Int}
use Rattle.sgb_graph.proofs.columns.Column.numbers.Given as goal

abbrev pub invariant-loop-k : goal.invariant-loop-k
invariant-loop-k l = map (λ i. Int i) l.numbers.items ≡ take l.k (map number_or_zero (values l.n l.self))
