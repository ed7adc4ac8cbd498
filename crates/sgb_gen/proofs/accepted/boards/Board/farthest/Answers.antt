use Rattle.std.proofs.Common.{◌≡◌, ◌+◌, ◌∙◌, ℕ, sym, ap, ap₂, arith, rules, w64, to_z, of_z}
use Rattle.std.proofs.lemmas.Int.{to_z-of_z}
use Rattle.sgb_moves.specs.inner.MovedCoordinates.{parts_stay}
use Rattle.sgb_gen.proofs.StraightMoves.{straight_arcs}
use Rattle.sgb_gen.proofs.accepted.boards.Board.farthest.Goals as goal

pub returns : goal.returns
returns c =
    let b = c.args.self.now in
    let t = c.args.t.now in
    let x = c.args.x.now in
    let n = c.reach_from.result in
    let wrap : to_z w64 (of_z w64 c.self.inside.wrap) ≡ b.wrap = to_z-of_z w64 c.self.inside.wrap (search rules) ∙ ap (λ d. d.wrap) c.self.view_is in
    let seen = λ (m : ℕ). ap₂ (λ s w. parts_stay s w x m c.parts.result.now) c.sizes.ensures wrap ∙ ap (parts_stay b.sizes b.wrap x m) c.parts.ensures.parts in
    record {
      arcs =
          straight_arcs b x t c.requires.below c.requires.dimensions c.requires.away n (omega (arith, c.longest_move.ensures, c.reach_from.ensures.within))
          (λ m within. sym (seen m) ∙ c.reach_from.ensures.stay m within)
          (λ less. sym (seen (n + 1)) ∙ c.reach_from.ensures.end (omega (arith, c.longest_move.ensures, less)));
      stay = λ m some within. sym (seen m) ∙ c.reach_from.ensures.stay m within;
      within = omega (arith, c.longest_move.ensures, c.reach_from.ensures.within);
      few = search rules;
    }
