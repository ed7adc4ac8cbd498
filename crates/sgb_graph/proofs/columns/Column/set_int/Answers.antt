use Rattle.sgb_vec.proofs.Common.{◌∙◌, sym, to_z-of_z, map-set, w64}
use Rattle.sgb_graph.specs.declared.fields.Util.TheVariants.{Int}
use Rattle.sgb_graph.proofs.Tables.{at_place-set}
use Rattle.sgb_graph.proofs.columns.Column.set_int.Goals as goal

pub returns-clause-values : goal.returns-clause-values
returns-clause-values c n =
    rw (to_z-of_z w64 c.args.value c.ranges.value, c.in-Ints.is)
    (map-set (λ i. Int i) c.in-Ints.numbers.items c.args.k c.args.value ∙ sym (at_place-set (Int c.args.value) c.args.k _))
