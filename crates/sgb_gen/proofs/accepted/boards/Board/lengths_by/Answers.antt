use Rattle.std.proofs.Common.{◌≡◌, ℕ, ◌<◌, ◌∙◌, true, false, length, ap, subst₂, arith, rules, w64, to_z, of_z}
use Rattle.std.proofs.lemmas.Int.{to_z-of_z}
use Rattle.sgb_vec.proofs.BoxPlaces.{Contains-from_IsBelow, length-box}
use Rattle.sgb_moves.specs.Moves.{sides_of}
use Rattle.sgb_gen.specs.inner.BoardCounts.{stops_at}
use Rattle.sgb_gen.proofs.AroundMoves.{around_lengths}
use Rattle.sgb_gen.proofs.BoardCountsLengths.{going}
use Rattle.sgb_gen.proofs.BoardCountsSides.{never-home}
use Rattle.sgb_gen.proofs.StraightMoves.{on_sides}
use Rattle.sgb_gen.proofs.accepted.boards.Board.lengths_by.Goals as goal

pub lengths_around-requires-clause-some : goal.lengths_around-requires-clause-some
lengths_around-requires-clause-some c =
    let b = c.args.self.now in
    omega (arith, (Contains-from_IsBelow b.sizes c.args.x.now c.requires.below).1, length-box b.sizes)

pub returns-then-first_stop-entries : goal.returns-then-first_stop-entries
returns-then-first_stop-entries c =
    let b = c.args.self.now in
    let t = c.args.t.now in
    let same = c.entries-entries.ensures in
    let wrap : to_z w64 (of_z w64 c.self.inside.wrap) ≡ b.wrap = to_z-of_z w64 c.self.inside.wrap (search rules) ∙ ap (λ d. d.wrap) c.self.view_is in
    let free : (k : ℕ) → k < length t → stops_at b.wrap t k ≡ false =
    λ k h. subst₂ (λ w es. stops_at w es k ≡ false) wrap same (c.first_stop.ensures.free k (omega arith) (omega (arith, h, c.if-first_stop-entries.true, ap length same))) in
    around_lengths b c.args.x.now t c.requires.below c.requires.dimensions free c.lengths_around.result c.lengths_around.ensures.within (rw same at c.lengths_around.ensures.away) (rw same at c.lengths_around.ensures.end)

pub farthest-requires-2-clause-away : goal.farthest-requires-2-clause-away
farthest-requires-2-clause-away c l some =
    let b = c.args.self.now in
    let t = c.args.t.now in
    let same = c.entries-entries.ensures in
    let s = c.first_stop.result in
    let wrap : to_z w64 (of_z w64 c.self.inside.wrap) ≡ b.wrap = to_z-of_z w64 c.self.inside.wrap (search rules) ∙ ap (λ d. d.wrap) c.self.view_is in
    let less : s < length c.entries-entries.result.now = omega (arith, c.first_stop.ensures.within, c.if-first_stop-entries.false) in
    let stop : stops_at b.wrap t s ≡ true = subst₂ (λ w es. stops_at w es s ≡ true) wrap same (c.first_stop.ensures.stop less) in
    going (sides_of b.sizes b.wrap) b.piece c.args.x.now t l (on_sides b c.args.x.now c.requires.below)
    (never-home b.sizes b.wrap b.piece t s l some c.requires.dimensions (omega (arith, less, ap length same)) stop)
