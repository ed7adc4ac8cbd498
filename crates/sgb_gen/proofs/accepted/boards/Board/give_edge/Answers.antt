use Rattle.std.proofs.Common.{rules, ◌≡◌, ◌++◌, ◌∷◌, [], ◌∙◌, pos, cond, not, Bool, List, refl, sym, ap, true, false}
use Rattle.sgb_gen.specs.LocalLists.{LocalArc}
use Rattle.sgb_moves.specs.Moves.{sides_of}
use Rattle.sgb_moves.specs.VectorMoves.{same_vector}
use Rattle.sgb_gen.specs.inner.LocalBoards.{edge_arcs}
use Rattle.sgb_moves.specs.inner.Moves.{destination}
use Rattle.sgb_gen.proofs.ArcsInTurn.{exit_part, given_last, so_far_begun, so_far_more}
use Rattle.sgb_gen.proofs.BoardWalks.{lands_width, leads}
use Rattle.sgb_gen.proofs.accepted.boards.Board.give_edge.Goals as goal

pub put_arc-requires-clause-width : goal.put_arc-requires-clause-width
put_arc-requires-clause-width g c = search (rules, leads, lands_width)

pub returns-in_err-put_arc-clause-given : goal.returns-in_err-put_arc-clause-given
returns-in_err-put_arc-clause-given g c =
    let b = c.args.self.now in
    let x = c.args.x.now in
    let l = c.args.l in
    let y = c.lands.new.there.items in
    let rest : List LocalArc = cond (same_vector y x) (record { tip = x; len = pos l } ∷ []) [] in
    let whole : edge_arcs x l (destination (sides_of b.sizes b.wrap) b.piece x c.args.t.now l) ≡ (record { tip = c.as_slice.result.now; len = pos l } ∷ []) ++ rest =
    ap (edge_arcs x l) (rw c.if-not-lands.false at c.lands.ensures.leads) ∙ ap (λ z. (record { tip = z; len = pos l } ∷ []) ++ rest) (sym c.as_slice.ensures.value) in
    exit_part (g.met.K.ArcSink.laws c.args.sink.now) _ _ _ rest _ _ _ _ _ _ _ _ c.from_residual.ensures.1 whole (so_far_begun (g.met.K.ArcSink.laws c.args.sink.now) _ _ _ _ refl) c.in_err-put_arc.ensures.given

-- the edge leads to the vector itself
same_of : (c : Bool) → not c ≡ false → c ≡ true
same_of true e = refl
same_of false e = absurd cc

pub returns-clause-given : goal.returns-clause-given
returns-clause-given g c =
    let b = c.args.self.now in
    let x = c.args.x.now in
    let l = c.args.l in
    let y = c.lands.new.there.items in
    let home : same_vector y x ≡ true = ap (λ z. same_vector z x) (sym c.as_slice-2.ensures.value) ∙ same_of (same_vector c.as_slice-2.result.now x) (sym c.ne.ensures ∙ c.if-ne.false) in
    let rest : Bool → List LocalArc = λ s. cond s (record { tip = x; len = pos l } ∷ []) [] in
    let whole : edge_arcs x l (destination (sides_of b.sizes b.wrap) b.piece x c.args.t.now l) ≡ (record { tip = c.as_slice.result.now; len = pos l } ∷ []) ++ rest true =
    ap (edge_arcs x l) (rw c.if-not-lands.false at c.lands.ensures.leads) ∙ ap (λ z. (record { tip = z; len = pos l } ∷ []) ++ rest (same_vector y x)) (sym c.as_slice.ensures.value)
    ∙ ap (λ s. (record { tip = c.as_slice.result.now; len = pos l } ∷ []) ++ rest s) home in
    given_last (g.met.K.ArcSink.laws c.args.sink.now) _ (rest true) _ _ _ _ _ _ _
    (so_far_more (g.met.K.ArcSink.laws c.args.sink.now) _ _ _ (rest true) _ _ _ _ _ _ whole (so_far_begun (g.met.K.ArcSink.laws c.args.sink.now) _ _ _ _ refl) c.in_ok-put_arc.ensures.given)
    c.put_arc-2.ensures.given
