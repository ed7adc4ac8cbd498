use Rattle.std.proofs.Common.{◌<◌, ℕ, ℤ, List, length, sym, subst, ap, ◌∙◌}
use Rattle.std.specs.List.{All}
use Rattle.sgb_moves.specs.MovedCoordinates.{parts_of}
use Rattle.sgb_moves.proofs.MovedCoordinates.{parts_within}
use Rattle.sgb_moves.proofs.steps.Step.parts.Goals as goal

pub returns-clause-within : goal.returns-clause-within
returns-clause-within c =
    let t = c.args.self.now in
    let parts = c.self.invariant ∙ ap parts_of c.self.view_is in
    subst (λ (ps : List (ℕ × ℤ)). All (λ p. p.0 < length t) ps) (sym parts) (parts_within t)
