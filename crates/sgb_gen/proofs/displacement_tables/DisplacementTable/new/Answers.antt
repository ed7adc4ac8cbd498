use Rattle.std.proofs.Common.{rules, ◌≡◌, ◌++◌, ◌∷◌, ◌≤◌, [], ℤ, List, nat_abs, reverse, sym, ap, subst, ◌∙◌, append_assoc, append-nil}
use Rattle.std.specs.List.{All}
use Rattle.std.proofs.lemmas.List.{reverse-append}
use Rattle.sgb_moves.specs.Limits.{most_piece}
use Rattle.sgb_gen.proofs.WalkedArcs.{fewer, last_has, others_have}
use Rattle.sgb_gen.proofs.displacement_tables.DisplacementTable.new.Goals as goal

abbrev IsSmall : List ℤ → Type 0
IsSmall t = All (λ e. nat_abs e ≤ most_piece) t

-- one displacement more
more : (kept new before after all : List (List ℤ)) (t : List ℤ) → before ++ reverse kept ≡ all → before ≡ after ++ t ∷ [] → new ≡ kept ++ t ∷ [] → after ++ reverse new ≡ all
more kept new before after all t so_far last is =
    ap (λ ts. after ++ reverse ts) is ∙ ap (λ ts. after ++ ts) (reverse-append kept (t ∷ [])) ∙ sym (append_assoc after (t ∷ []) (reverse kept)) ∙ sym (ap (λ ts. ts ++ reverse kept) last) ∙ so_far

pub loop-t-init : goal.loop-t-init
loop-t-init c = search (rules, append-nil)

pub loop-t-preserved : goal.loop-t-preserved
loop-t-preserved c =
    let t = c.in-Some.t.now in
    let ts = c.loop-t.left in
    let is = c.in-Some.ensures.last in
    let left = c.retreat.ensures in (
      more c.loop-t.kept.items _ ts c.retreat.new.self c.args.left t c.loop-t.invariant.0 (is ∙ ap (λ us. us ++ t ∷ []) (sym left)) (c.in-Ok.ensures.items ∙ ap (λ p. c.loop-t.kept.items ++ p ∷ []) c.in_ok-pair.ensures),
      subst (All IsSmall) (sym left) (others_have ts t is IsSmall c.loop-t.invariant.1),
    )
