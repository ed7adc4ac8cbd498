use Rattle.std.proofs.Common.{◌≡◌, ◌∙◌, ◌+◌, ℕ, ap, ap₂, of_z, sym, to_z, w64, arith, rules}
use Rattle.std.proofs.lemmas.Int.{to_z-of_z}
use Rattle.sgb_moves.specs.inner.MovedCoordinates.{parts_stay}
use Rattle.sgb_gen.proofs.accepted.boards.Board.reach_by.Goals as goal

pub returns : goal.returns
returns c =
    let b = c.args.self.now in
    let x = c.args.x.now in
    let parts = c.args.parts.now in
    let wrap : to_z w64 (of_z w64 c.self.inside.wrap) ≡ b.wrap = to_z-of_z w64 c.self.inside.wrap (search rules) ∙ ap (λ d. d.wrap) c.self.view_is in
    let seen = λ (m : ℕ). ap₂ (λ s w. parts_stay s w x m parts) c.sizes.ensures wrap in
    record {
      within = omega (arith, c.reach.ensures.within, c.longest_move.ensures);
      stay = λ l few. sym (seen l) ∙ c.reach.ensures.stay l few;
      end = λ more. sym (seen (c.reach.result + 1)) ∙ c.reach.ensures.end (omega (arith, more, c.longest_move.ensures));
    }
