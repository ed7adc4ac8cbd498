use Rattle.std.proofs.Common.{◌≡◌, true, false, rules, sym, ap, subst, ◌∙◌, w64, to_z, of_z}
use Rattle.std.proofs.lemmas.Int.{to_z-of_z}
use Rattle.sgb_moves.specs.inner.Moves.{leads_onward}
use Rattle.sgb_gen.proofs.GivenArcs.{none_around}
use Rattle.sgb_gen.proofs.RunsOfLists.{directed_run, onward_run}
use Rattle.sgb_gen.proofs.accepted.boards.Board.lengths_near.Goals as goal
use Rattle.std.proofs.Common.{refl}

pub returns-then-self-clause-order : goal.returns-then-self-clause-order
returns-then-self-clause-order c =
    let b = c.args.self.now in
    let directed : b.directed ≡ true = sym (ap (λ d. d.directed) c.self.view_is) ∙ c.if-self.true in
    none_around _ _ _ _ c.args.behind (directed_run b c.args.x.now c.args.t.now directed c.requires.below) c.requires.behind

pub returns-then-leads_onward-clause-order : goal.returns-then-leads_onward-clause-order
returns-then-leads_onward-clause-order c =
    let b = c.args.self.now in
    let wrap : to_z w64 (of_z w64 c.self.inside.wrap) ≡ b.wrap = to_z-of_z w64 c.self.inside.wrap (search rules) ∙ ap (λ d. d.wrap) c.self.view_is in
    let onward : leads_onward b.wrap 0 c.args.t.now ≡ true = subst (λ w. leads_onward w 0 c.args.t.now ≡ true) wrap (sym c.leads_onward.ensures ∙ c.if-leads_onward.true) in
    none_around _ _ _ _ c.args.behind (onward_run b c.args.x.now c.args.t.now b.directed refl c.requires.below c.requires.dimensions onward) c.requires.behind

pub lengths_before-requires : goal.lengths_before-requires
lengths_before-requires c =
    let b = c.args.self.now in
    let edges : b.directed ≡ false = sym (ap (λ d. d.directed) c.self.view_is) ∙ c.if-self.false in
    let wrap : to_z w64 (of_z w64 c.self.inside.wrap) ≡ b.wrap = to_z-of_z w64 c.self.inside.wrap (search rules) ∙ ap (λ d. d.wrap) c.self.view_is in
    let around : leads_onward b.wrap 0 c.args.t.now ≡ false = subst (λ w. leads_onward w 0 c.args.t.now ≡ false) wrap (sym c.leads_onward.ensures ∙ c.if-leads_onward.false) in
    let sorted = c.requires.sorted edges around in
    record {
      below = c.requires.below;
      dimensions = c.requires.dimensions;
      some = sorted.0;
      once = sorted.1;
      behind = rw edges at c.requires.behind;
    }
