use Rattle.std.proofs.Common.{◌≡◌, true, rules, sym, ap, subst, ◌∙◌, true≢false, w64, to_z, of_z}
use Rattle.std.proofs.lemmas.Bool.{OnTrue_at, OnTrue_from}
use Rattle.std.proofs.lemmas.Int.{to_z-of_z}
use Rattle.sgb_moves.specs.inner.Moves.{leads_onward}
use Rattle.sgb_gen.specs.inner.StraightLists.{IsInOrder}
use Rattle.sgb_gen.proofs.accepted.boards.Board.is_in_order.Goals as goal

pub returns-then-self-clause-order : goal.returns-then-self-clause-order
returns-then-self-clause-order c edges around = absurd (true≢false (sym c.if-self.true ∙ ap (λ d. d.directed) c.self.view_is ∙ edges))

pub returns-then-leads_onward-clause-order : goal.returns-then-leads_onward-clause-order
returns-then-leads_onward-clause-order c edges around =
    let b = c.args.self.now in
    let wrap : to_z w64 (of_z w64 c.self.inside.wrap) ≡ b.wrap = to_z-of_z w64 c.self.inside.wrap (search rules) ∙ ap (λ d. d.wrap) c.self.view_is in
    let onward : leads_onward b.wrap 0 c.args.t.now ≡ true = subst (λ w. leads_onward w 0 c.args.t.now ≡ true) wrap (sym c.leads_onward.ensures ∙ c.if-leads_onward.true) in
    absurd (true≢false (sym onward ∙ around))

pub returns-clause-order : goal.returns-clause-order
returns-clause-order c =
    OnTrue_from c.goes_around_once.result (IsInOrder c.args.self.now c.args.t.now c.args.behind) (λ yes edges around. OnTrue_at yes c.goes_around_once.ensures)
