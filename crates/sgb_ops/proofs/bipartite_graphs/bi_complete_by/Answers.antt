use Rattle.sgb_vec.proofs.Common.{◌∙◌, Ok, Err, false, w64, to_z, of_z, ap, to_z-of_z, err_from_is_err_and}
use Rattle.sgb_vec.specs.Results.{and_then}
use Rattle.sgb_graph.specs.Growth.{with_id, with_uu}
use Rattle.sgb_gen.specs.Boards.{board}
use Rattle.sgb_ops.specs.inner.Compounds.{bi_complete_id}
use Rattle.sgb_ops.specs.Boards.{pair_of_vertices}
use Rattle.sgb_ops.specs.Induced.{induced_of}
use Rattle.sgb_ops.specs.inner.Boards.{with_parts}
use Rattle.sgb_ops.proofs.AnswersOnward.{changed, induced_uses_none, onward, parts_made, refused_onward}
use Rattle.sgb_ops.proofs.bipartite_graphs.bi_complete_by.Goals as goal

pub returns : goal.returns
returns c =
    let n1 = c.args.n1 in
    let n2 = c.args.n2 in
    let d = c.args.directed in
    let first = to_z-of_z w64 n1 c.ranges.n1 in
    let second = to_z-of_z w64 n2 c.ranges.n2 in
    let read2 = to_z w64 (of_z w64 n2) in
    let parts = c.args.parts.now in
    let pair = c.in_ok-pair.pair in
    let built = c.in_ok-built.built in
    let new = c.set_id.new.self in
    let id = c.numbers_id.ensures ∙ (ap (λ k. bi_complete_id k read2 d) first ∙ ap (λ k. bi_complete_id n1 k d) second) in
    let uu = c.set_uu.ensures.data ∙ ap (λ k. with_uu k built) first in
    let made = c.set_id.ensures ∙ (ap (λ t. with_id t c.set_uu.new.self) id ∙ ap (with_id (bi_complete_id n1 n2 d)) uu) in
    rw c.requires
    (onward (board (pair_of_vertices d)) pair (λ g. and_then (induced_of g parts false false d) (λ x. Ok (with_parts n1 n2 d x))) (Ok new) c.in_ok-pair.ensures
    (changed (induced_of pair parts false false d) built new (with_parts n1 n2 d) c.in_ok-built.ensures.answer
    (λ x is h. parts_made n1 n2 d x built new (induced_uses_none pair parts false false d x is) h made)))

pub returns-in_err-built : goal.returns-in_err-built
returns-in_err-built c =
    let n1 = c.args.n1 in
    let n2 = c.args.n2 in
    let d = c.args.directed in
    let parts = c.args.parts.now in
    let pair = c.in_ok-pair.pair in
    let p = err_from_is_err_and c.from_residual-in_err-built.result c.from_residual-in_err-built.ensures.1 in
    rw (c.requires, p.1, p.2)
    (onward (board (pair_of_vertices d)) pair (λ g. and_then (induced_of g parts false false d) (λ x. Ok (with_parts n1 n2 d x))) (Err c.in_err-built.field-0.0) c.in_ok-pair.ensures
    (refused_onward (induced_of pair parts false false d) c.in_err-built.field-0.0 (λ x. Ok (with_parts n1 n2 d x)) c.in_err-built.ensures.answer))
