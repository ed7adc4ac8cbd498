use Rattle.std.proofs.Common.{◌≡◌, ◌<◌, ◌∙◌, All, length, sym, ap, subst, rules}
use Rattle.sgb_vec.proofs.BoxPlaces.{IsBelow-length}
use Rattle.sgb_moves.specs.MovedCoordinates.{parts_of}
use Rattle.sgb_moves.proofs.DisplacementWalk.{refill-all}
use Rattle.sgb_moves.proofs.MovedCoordinates.{agree_put, length-put, parts_within, put_over}
use Rattle.sgb_gen.proofs.spans.Span.put_tip.Goals as goal

pub put_parts-requires-clause-parts : goal.put_parts-requires-clause-parts
put_parts-requires-clause-parts c =
    let s = c.self.inside in
    let moved = c.self.invariant.1 in
    subst (All (λ p. p.0 < length s.sizes.now)) (sym moved.2)
    (subst (λ n. All (λ p. p.0 < n) (parts_of moved.0)) (moved.1 ∙ IsBelow-length s.sizes.now s.x.now c.self.invariant.0) (parts_within moved.0))

pub put_parts-requires-clause-there : goal.put_parts-requires-clause-there
put_parts-requires-clause-there c =
    ap length c.as_mut_slice.ensures.value ∙ c.requires.0 ∙ ap (λ s. length s.x) (sym c.self.view_is) ∙ IsBelow-length c.self.inside.sizes.now c.self.inside.x.now c.self.invariant.0

pub returns-clause-tip : goal.returns-clause-tip
returns-clause-tip c = search (rules, refill-all, length-put, put_over)

pub returns-clause-there : goal.returns-clause-there
returns-clause-there c = search (rules, refill-all, length-put, agree_put)
