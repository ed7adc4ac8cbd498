use Rattle.std.proofs.Common.{ap, sym, ◌∙◌}
use Rattle.std.specs.List.{list_all}
use Rattle.std.proofs.lemmas.List.Folds.{list_all-map}
use Rattle.sgb_graph.specs.inner.KeptRecords.{plain_fits, plain_of, short_fits}
use Rattle.sgb_graph.proofs.leads.Leads.fit.Goals as goal

pub returns-in-Short : goal.returns-in-Short
returns-in-Short c =
    let each = ap (λ records. list_all (short_fits c.args.n c.args.m) records) c.deref.ensures.value in
    rw c.in-Short.is (c.each_short_fits.ensures ∙ (each ∙ sym (list_all-map (plain_fits c.args.n c.args.m) plain_of c.in-Short.records.items)))
