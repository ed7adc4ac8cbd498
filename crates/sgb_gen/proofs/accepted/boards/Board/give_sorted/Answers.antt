use Rattle.std.proofs.Common.{◌≡◌, ◌∙◌, ℕ, length, ap, ap₂}
use Rattle.sgb_vec.specs.Boxes.{box}
use Rattle.sgb_vec.proofs.BoxPlaces.{Contains-from_IsBelow}
use Rattle.sgb_gen.specs.inner.Starts.{arcs_within}
use Rattle.sgb_gen.proofs.ArcsInTurn.{given_as}
use Rattle.sgb_gen.proofs.StartRanges.{all_within}
use Rattle.sgb_gen.proofs.accepted.boards.Board.give_sorted.Goals as goal

pub returns-clause-given : goal.returns-clause-given
returns-clause-given g c =
    let b = c.args.self.now in
    let x = c.args.x.now in
    let t = c.args.t.now in
    let size : c.size.result ≡ length (box b.sizes) = c.size.ensures ∙ ap (λ d. length (box d.sizes)) c.self.view_is in
    given_as (g.met.K.ArcSink.laws c.args.sink.now) _ _ _ _ _ _ _
    (ap₂ (λ (n m : ℕ). arcs_within b x t (record { low = 0; high = n; from = 0; to = m })) size c.longest_move.ensures ∙ all_within b t x (Contains-from_IsBelow b.sizes x c.requires.below))
    c.give_within.ensures.given
