use Rattle.std.proofs.Common.{◌≡◌, ℕ, ◌<◌, ◌∙◌, false, length, ap, subst₂, arith, rules, w64, to_z, of_z}
use Rattle.std.proofs.lemmas.Int.{to_z-of_z}
use Rattle.sgb_vec.specs.Boxes.{box}
use Rattle.sgb_vec.proofs.BoxPlaces.{length-box}
use Rattle.sgb_gen.specs.inner.BoardCounts.{stops_at}
use Rattle.sgb_gen.proofs.AroundMoves.{around_lengths}
use Rattle.sgb_gen.proofs.MostLengths.{as_many, has_some, within_longest}
use Rattle.sgb_gen.proofs.accepted.boards.Board.most_lengths.Goals as goal

pub returns-then-self-gt0 : goal.returns-then-self-gt0
returns-then-self-gt0 c x below = omega (arith, within_longest c.args.self.now x c.args.t.now, c.longest_move.ensures)

pub returns-then-size-eq0 : goal.returns-then-size-eq0
returns-then-size-eq0 c x below =
    absurd (omega (arith, has_some c.args.self.now x below, c.size.ensures, c.if-size-eq0.true, ap (λ d. length (box d.sizes)) c.self.view_is))

pub lengths_around-requires-clause-some : goal.lengths_around-requires-clause-some
lengths_around-requires-clause-some c = search (rules, length-box)

pub returns-then-stop-entries : goal.returns-then-stop-entries
returns-then-stop-entries c x below =
    let b = c.args.self.now in
    let t = c.args.t.now in
    let same = c.entries-entries.ensures in
    let wrap : to_z w64 (of_z w64 c.self.inside.wrap) ≡ b.wrap = to_z-of_z w64 c.self.inside.wrap (search rules) ∙ ap (λ d. d.wrap) c.self.view_is in
    let free : (k : ℕ) → k < length t → stops_at b.wrap t k ≡ false =
    λ k h. subst₂ (λ w es. stops_at w es k ≡ false) wrap same (c.first_stop-stop.ensures.free k (omega arith) (omega (arith, h, c.if-stop-entries.true, ap length same))) in
    let all = around_lengths b x t below c.requires.dimensions free c.lengths_around.result c.lengths_around.ensures.within (rw same at c.lengths_around.ensures.away) (rw same at c.lengths_around.ensures.end) in
    omega (arith, as_many b x t c.lengths_around.result all)
