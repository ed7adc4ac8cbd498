use Rattle.sgb_vec.proofs.Common.{rules, refl, sym, list_all, list_all-map}
use Rattle.sgb_graph.specs.Sound.{chain_fits, ref_fits, util_fits}
use Rattle.sgb_graph.specs.declared.fields.Kind.TheVariants.{I, S}
use Rattle.sgb_graph.specs.declared.fields.Util.TheVariants.{Int, Str}
use Rattle.sgb_graph.proofs.FitColumns.{nothing_fits}
use Rattle.sgb_graph.proofs.Lists.{list_all-made}
use Rattle.sgb_graph.proofs.columns.Column.fits.Goals as goal

pub returns-in-Unused : goal.returns-in-Unused
returns-in-Unused c k = rw c.in-Unused.is (sym (nothing_fits c.args.n c.args.m k))

pub returns-in-Ints : goal.returns-in-Ints
returns-in-Ints c k = rw c.in-Ints.is (sym (list_all-made (util_fits c.args.n c.args.m I) (λ i. Int i) c.in-Ints.field-0.items (λ i. refl)))

pub returns-in-Vertices : goal.returns-in-Vertices
returns-in-Vertices c k = search (rules, list_all, ref_fits, list_all-map, util_fits)

pub returns-in-Texts : goal.returns-in-Texts
returns-in-Texts c k = rw c.in-Texts.is (sym (list_all-made (util_fits c.args.n c.args.m S) (λ text. Str text) c.in-Texts.field-0.items (λ text. refl)))

pub returns-in-Chains : goal.returns-in-Chains
returns-in-Chains c k = search (rules, list_all, chain_fits, list_all-map, util_fits)
