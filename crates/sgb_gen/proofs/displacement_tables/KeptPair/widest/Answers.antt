use Rattle.std.proofs.Common.{◌≡◌, ◌≤◌, pos, nat_abs, length, slice_index_or, ap, arith, rules, subst}
use Rattle.std.proofs.lemmas.List.{get_or_default}
use Rattle.sgb_gen.proofs.displacement_tables.KeptPair.widest.Goals as goal

pub loop-entry-preserved : goal.loop-entry-preserved
loop-entry-preserved c = λ j h. grind arith

pub returns : goal.returns
returns c = λ k d h.
    let same : c.entries-entry-items.result.now ≡ c.args.self.now = search rules in
    rw (get_or_default c.args.self.now k d (pos 0) h)
    (subst (λ xs. nat_abs (slice_index_or xs k (pos 0)) ≤ c.loop-entry.widest) same (c.loop-entry.invariant k (omega (arith, ap length same))))
