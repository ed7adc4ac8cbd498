use Rattle.std.proofs.Common.{rules, ◌∙◌, sym, eqb-true}
use Rattle.sgb_vec.proofs.BoxPlaces.{IsBelow-test, IsBelow-length}
use Rattle.sgb_vec.proofs.boxes.each_below.Goals as goal

pub returns-then-entries-sizes : goal.returns-then-entries-sizes
returns-then-entries-sizes c =
    let means = IsBelow-test c.args.sizes.now c.args.entries.now c.if-entries-sizes.true in
    (λ yes. means.0 (sym c.pairs_below.ensures ∙ yes), λ below. c.pairs_below.ensures ∙ means.1 below)

pub returns-else-entries-sizes : goal.returns-else-entries-sizes
returns-else-entries-sizes c = search (rules, eqb-true, IsBelow-length)
