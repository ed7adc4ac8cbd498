use Rattle.std.proofs.Common.{rules, ◌≡◌, List, ℤ, ◌+◌, ◌∷◌, drop, length, map, sym, ap, subst, ◌∙◌, arith}
use Rattle.std.specs.List.{All, flat_map}
use Rattle.std.proofs.lemmas.List.{drop_all, drop_more}
use Rattle.std.proofs.lemmas.Option.{get_or_from_slice_get, slice_get_within}
use Rattle.sgb_vec.specs.Boxes.{box}
use Rattle.sgb_graph.specs.Growth.{AddsEvents}
use Rattle.sgb_graph.proofs.AddedEvents.{up_to-none, up_to-more, up_to-all}
use Rattle.sgb_moves.specs.Moves.{moves_from, sides_of}
use Rattle.sgb_gen.specs.VectorGraphs.{event_among}
use Rattle.sgb_gen.proofs.BoardEvents.{events_by, events_of, events_by-moves, events_of-moves}
use Rattle.sgb_gen.proofs.BoundedMoves.{events_within}
use Rattle.sgb_gen.proofs.accepted.boards.Board.add_arcs_by.Goals as goal

pub loop-k-init : goal.loop-k-init
loop-k-init c = search (rules, events_of, events_by, events_within, up_to-none)

pub loop-k-preserved : goal.loop-k-preserved
loop-k-preserved c =
    let b = c.args.self.now in
    let t = c.at.result.now in
    let table = c.args.table.now in
    let there = c.at.ensures in
    let step : drop c.loop-k.k table ≡ t ∷ drop (c.loop-k.k + 1) table =
    drop_more table c.loop-k.k t (slice_get_within table c.loop-k.k t there) ∙ ap (λ u. u ∷ drop (c.loop-k.k + 1) table) (get_or_from_slice_get table c.loop-k.k t t there) in
    let made = λ (u : List ℤ). map (event_among (box b.sizes)) (flat_map (λ x. moves_from (sides_of b.sizes b.wrap) b.piece x u) (box b.sizes)) in
    let added = subst (AddsEvents b.directed c.loop-k.graph c.add_moves_by.new.graph) (ap made c.ahead.ensures ∙ sym (events_by-moves b t)) c.in_ok-add_moves_by.ensures.ok in
    up_to-more _ _ _ _ _ _ _ _ c.loop-k.invariant (ap (flat_map (events_by b)) step) added

pub returns-clause-ok : goal.returns-clause-ok
returns-clause-ok c = search (rules, drop_all, events_of-moves, up_to-all, events_by)
