use Rattle.std.proofs.Common.{◌≡◌, ◌∙◌, ℕ, List, reverse, refl, ap, ap₂, subst}
use Rattle.std.specs.List.Sorted.{IsPermutation}
use Rattle.sgb_vec.specs.Boxes.{box}
use Rattle.sgb_vec.proofs.BoxPlaces.{Contains-from_IsBelow}
use Rattle.sgb_moves.specs.Moves.{opposite, sides_of}
use Rattle.sgb_gen.specs.VectorGraphs.{vertex_among}
use Rattle.sgb_gen.specs.inner.LocalBoards.{arcs_of_starts}
use Rattle.sgb_moves.specs.inner.Starts.{is_within}
use Rattle.sgb_gen.specs.inner.Starts.{starts_within}
use Rattle.sgb_gen.proofs.ArcsInTurn.{exit_part, given_as, given_last, so_far_begun, so_far_more}
use Rattle.sgb_gen.proofs.SortedStarts.{passing_sorted}
use Rattle.sgb_gen.proofs.StartRanges.{arcs_apart, not_two}
use Rattle.sgb_gen.proofs.accepted.boards.Board.+give_within.Goals as goal

pub returns-then-put_starts-clause-given : goal.returns-then-put_starts-clause-given
returns-then-put_starts-clause-given g t c =
    let b = c.args.self.now in
    let x = c.args.x.now in
    let t = c.args.t.now in
    let there = Contains-from_IsBelow b.sizes x c.requires.below in
    let put : c.grow.new.self ≡ starts_within b x t c.args.range =
    c.grow.ensures ∙ rw c.if-put_starts.true at c.put_starts.ensures.all in
    let sorted = passing_sorted b t x there (is_within c.args.range) c.sort.new.self (subst (λ (ss : List (ℕ × ℕ)). IsPermutation ss c.sort.new.self) put c.sort.ensures.same) c.sort.ensures.sorted in
    given_as (g.met.K.ArcSink.laws c.args.sink.now) _ _ _ _ _ _ _
    (ap₂ (λ u back. reverse (arcs_of_starts (sides_of b.sizes b.wrap) b.piece u x t back c.sort.new.self)) c.requires.vertex c.requires.back
    ∙ ap (λ ss. reverse (arcs_of_starts (sides_of b.sizes b.wrap) b.piece (vertex_among (box b.sizes) x) x t (opposite t) ss)) sorted)
    c.give_edges.ensures.given

pub returns-in_default-clause-given : goal.returns-in_default-clause-given
returns-in_default-clause-given g t c =
    let b = c.args.self.now in
    absurd (not_two b c.args.t.now c.args.x.now (Contains-from_IsBelow b.sizes c.args.x.now c.requires.below) c.args.range c.in_default.ensures.one (rw c.if-put_starts.false at c.put_starts.ensures.many))

pub returns-in_err-give_within-clause-given : goal.returns-in_err-give_within-clause-given
returns-in_err-give_within-clause-given g t c =
    let b = c.args.self.now in
    exit_part (g.met.K.ArcSink.laws c.args.sink.now) _ _ _ _ _ _ _ _ _ _ _ _ c.from_residual.ensures.1
    (arcs_apart b c.args.t.now c.args.x.now (Contains-from_IsBelow b.sizes c.args.x.now c.requires.below) c.args.range c.in-Some.earlier c.in-Some.later c.in-Some.ensures.halves)
    (so_far_begun (g.met.K.ArcSink.laws c.args.sink.now) _ _ _ _ refl) c.in_err-give_within.ensures.given

pub returns-clause-given : goal.returns-clause-given
returns-clause-given g t c =
    let b = c.args.self.now in
    given_last (g.met.K.ArcSink.laws c.args.sink.now) _ _ _ _ _ _ _ _ _
    (so_far_more (g.met.K.ArcSink.laws c.args.sink.now) _ _ _ _ _ _ _ _ _ _
    (arcs_apart b c.args.t.now c.args.x.now (Contains-from_IsBelow b.sizes c.args.x.now c.requires.below) c.args.range c.in-Some.earlier c.in-Some.later c.in-Some.ensures.halves)
    (so_far_begun (g.met.K.ArcSink.laws c.args.sink.now) _ _ _ _ refl) c.in_ok-give_within.ensures.given)
    c.give_within-2.ensures.given
