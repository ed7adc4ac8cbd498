use Rattle.std.proofs.Common.{◌∙◌, List, ℕ, Option, ap, drop, option_map, sym, true≢false}
use Rattle.std.proofs.lemmas.Bool.{OnTrue_from}
use Rattle.sgb.specs.Locals.{left_out_after}
use Rattle.sgb.proofs.ResumedListings.{none_next, past_all}
use Rattle.sgb.proofs.writing.resumed.is_past.Goals as goal

pub returns-in-Ok-clause-past : goal.returns-in-Ok-clause-past
returns-in-Ok-clause-past g c =
    let members = g.F.Family.members c.args.family.now in
    OnTrue_from c.is_none.result _ (λ yes.
    past_all members c.args.resume.now (option_map (λ v. v.items) c.in-Ok.start) c.in-Ok.ensures
    (λ whole. true≢false (sym (c.has_head.ensures.whole whole) ∙ c.if-has_head.false))
    (ap (λ (o : Option (List ℕ)). drop (left_out_after members o) members) (sym c.slice_of.ensures) ∙ sym c.vectors_after.ensures
    ∙ none_next _ c.front.result c.is_none.result c.front.ensures.none c.is_none.ensures yes))
