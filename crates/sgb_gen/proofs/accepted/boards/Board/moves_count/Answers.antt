use Rattle.std.proofs.Common.{rules, ◌≡◌, ◌+◌, List, ℤ, [], ◌∷◌, ◌++◌, length, ap, subst, sym, ◌∙◌, arith, length-append, append-nil}
use Rattle.std.specs.List.{All, flat_map}
use Rattle.std.proofs.lemmas.Grind.{flat_map-append}
use Rattle.sgb_vec.specs.Boxes.{box}
use Rattle.sgb_gen.specs.inner.LocalBoards.{moves_by}
use Rattle.sgb_moves.specs.Moves.{sides_of}
use Rattle.sgb_moves.specs.VectorMoves.{Move}
use Rattle.sgb_gen.proofs.BoundedMoves.{moves_within}
use Rattle.sgb_gen.proofs.WalkedArcs.{others_have, rest_of}
use Rattle.sgb_gen.proofs.accepted.boards.Board.moves_count.Goals as goal

pub loop-t-init : goal.loop-t-init
loop-t-init c = search (rules, moves_within)

-- those by the last displacement, and those by the others
parts : (moves : List ℤ → List Move) (t : List ℤ) (ts left : List (List ℤ)) → ts ≡ left ++ t ∷ [] → length (flat_map moves ts) ≡ length (flat_map moves left) + length (moves t)
parts moves t ts left e =
    ap (λ us. length (flat_map moves us)) e ∙ ap length (flat_map-append moves left (t ∷ []))
    ∙ length-append (flat_map moves left) (moves t ++ []) ∙ ap (λ ms. length (flat_map moves left) + length ms) (append-nil (moves t))

pub loop-t-preserved : goal.loop-t-preserved
loop-t-preserved c =
    let b = c.args.self.now in
    let t = c.in-Some.t.now in
    let ts = c.loop-t.left in
    let is = c.in-Some.ensures.last in
    let left = c.retreat.ensures in
    let split = parts (moves_by (sides_of b.sizes b.wrap) b.piece (box b.sizes)) t ts (rest_of ts) is in
    let moves = ap (λ us. length (flat_map (moves_by (sides_of b.sizes b.wrap) b.piece (box b.sizes)) us)) left in (
      subst (All (λ u. length u ≡ length b.sizes)) (sym left) (others_have ts t is (λ u. length u ≡ length b.sizes) c.loop-t.invariant.0),
      omega (arith, split, moves, c.loop-t.invariant.1, c.in-Some-count_by.ensures.some),
    )

pub returns-in_default-count_by-clause-none : goal.returns-in_default-count_by-clause-none
returns-in_default-count_by-clause-none c =
    let b = c.args.self.now in
    let t = c.in-Some.t.now in
    let ts = c.loop-t.left in
    let split = parts (moves_by (sides_of b.sizes b.wrap) b.piece (box b.sizes)) t ts (rest_of ts) c.in-Some.ensures.last in
    omega (arith, split, c.loop-t.invariant.1, c.in_default-count_by.ensures.none)
