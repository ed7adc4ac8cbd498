use Rattle.std.proofs.Common.{◌≡◌, ◌++◌, ◌∷◌, ◌+◌, ◌∙◌, [], drop, get_or, sym, ap, append_assoc, arith}
use Rattle.std.proofs.lemmas.List.{at_drop_more}
use Rattle.sgb_gen.proofs.links.push_entries.Goals as goal

pub loop-entry-preserved : goal.loop-entry-preserved
loop-entry-preserved c =
    let x = c.args.x.now in
    let i = c.loop-entry.entry-index in
    let es = c.loop-entry.entries.items in
    let left : (es ++ get_or x i 0 ∷ []) ++ drop (i + 1) x ≡ es ++ drop i x = append_assoc es (get_or x i 0 ∷ []) (drop (i + 1) x) ∙ ap (λ r. es ++ r) (sym (at_drop_more (λ r. r) x i 0 (omega arith))) in (
      ap (λ v. v ++ drop (i + 1) x) c.put.ensures.items ∙ left ∙ c.loop-entry.invariant.0,
      omega (arith, c.loop-entry.invariant.1, c.put.ensures.len, c.put.ensures.room),
    )
