use Rattle.std.proofs.Common.{rules, ◌∙◌, ◌++◌, ◌∷◌, [], sym, ap}
use Rattle.sgb_gen.proofs.LinkRows.{arc-pushed, rows-push}
use Rattle.sgb_gen.proofs.links.Links.push.Goals as goal

pub invariant_of-self-2 : goal.invariant_of-self-2
invariant_of-self-2 c =
    rows-push c.self.inside.width c.args.len c.self.inside.tips.items c.self.inside.lens.items c.args.tip.now _ _ c.in_ok-push_entries.ensures.ok
    (c.in_ok-push.ensures.items ∙ ap (λ ns. ns ++ c.args.len ∷ []) c.in_ok-reserve.ensures.items) c.self.invariant (c.requires.width ∙ sym (ap (λ d. d.width) c.self.view_is))

pub returns-clause-ok : goal.returns-clause-ok
returns-clause-ok c = search (rules, arc-pushed)
