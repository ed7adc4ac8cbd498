use Rattle.std.proofs.Common.{rules, ◌≡◌, Result, Ok, refl, subst, neg_ℤ, false}
use Rattle.std.proofs.lemmas.Result.{err_from_is_err_and}
use Rattle.sgb_vec.specs.Results.{IsValue}
use Rattle.sgb_vec.specs.declared.panics.Panic.{Panic}
use Rattle.sgb_graph.specs.Descriptions.{IsAnswerOf}
use Rattle.sgb_graph.specs.Graphs.{GraphData}
use Rattle.sgb_gen.specs.declared.params.Generator.{Generator}
use Rattle.sgb_ops.specs.Gunion.{gunion_of}
use Rattle.sgb.specs.Outcomes.{moves_of, queen_moves}
use Rattle.sgb_gen.specs.Generators.{generator_value, made}
use Rattle.sgb_values.specs.Values.{both}
use Rattle.sgb_values.proofs.Values.{first_refused, value_made, value_then}
use Rattle.sgb.proofs.queens.queen_moves.Goals as goal

-- two graphs, one after the other
moves_both : (first second : Result GraphData Panic) (x y : GraphData) → first ≡ Ok x → second ≡ Ok y → both first second ≡ Ok (x, y)
moves_both first second x y e f = rw (e, f) refl

-- the graph of a generator that is known, or its refusal
moves_made : (e f : Generator) (r : Result GraphData Panic) → e ≡ f → IsAnswerOf (generator_value e) r → IsValue (made (generator_value f)) r
moves_made e f r same is = value_made (generator_value f) r (subst (λ (x : Generator). IsAnswerOf (generator_value x) r) same is)

pub returns-in_err-rooks : goal.returns-in_err-rooks
unfolding queen_moves
returns-in_err-rooks c = search (rules, err_from_is_err_and, first_refused, made, generator_value, moves_of, neg_ℤ, moves_made)

pub returns : goal.returns
unfolding queen_moves
returns c =
    let both_made = moves_both _ _ c.in_ok-rooks.rooks c.in_ok-bishops.bishops (moves_made _ _ _ c.moves_of.ensures c.in_ok-rooks.ensures.answer) (moves_made _ _ _ c.moves_of-2.ensures c.in_ok-bishops.ensures.answer) in
    value_then _ (c.in_ok-rooks.rooks, c.in_ok-bishops.bishops) (λ operands. made (gunion_of operands.0 operands.1 false false)) c.gunion.result both_made
    (value_made (gunion_of c.in_ok-rooks.rooks c.in_ok-bishops.bishops false false) c.gunion.result c.gunion.ensures)
