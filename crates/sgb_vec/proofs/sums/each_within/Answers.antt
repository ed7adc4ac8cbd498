use Rattle.std.proofs.Common.{rules, ◌∙◌, sym, eqb-true}
use Rattle.sgb_vec.proofs.SumMembers.{IsWithin-test, IsWithin-length}
use Rattle.sgb_vec.proofs.sums.each_within.Goals as goal

pub returns-then-entries-bounds : goal.returns-then-entries-bounds
returns-then-entries-bounds c =
    let means = IsWithin-test c.args.bounds.now c.args.entries.now c.if-entries-bounds.true in
    (λ yes. means.0 (sym c.pairs_within.ensures ∙ yes), λ within. c.pairs_within.ensures ∙ means.1 within)

pub returns-else-entries-bounds : goal.returns-else-entries-bounds
returns-else-entries-bounds c = search (rules, eqb-true, IsWithin-length)
