use Rattle.sgb_vec.proofs.Common.{rules, ◌≡◌, ◌∙◌, ℤ, SFits, w64, to_z, of_z, ap, to_z-of_z, err_from_is_err_and}
use Rattle.sgb_graph.specs.Descriptions.{IsAnswerOf}
use Rattle.sgb_ops.specs.BiComplete.{accepted_parts, bi_complete_of}
use Rattle.sgb_ops.proofs.Refusals.{not_refused, same_refusal}
use Rattle.sgb_ops.proofs.bipartite_graphs.bi_complete.Goals as goal

-- two numbers as the code keeps them
read : (n1 n2 : ℤ) → SFits w64 n1 → SFits w64 n2 → accepted_parts (to_z w64 (of_z w64 n1)) (to_z w64 (of_z w64 n2)) ≡ accepted_parts n1 n2
read n1 n2 first second =
    ap (λ k. accepted_parts k (to_z w64 (of_z w64 n2))) (to_z-of_z w64 n1 first) ∙ ap (accepted_parts n1) (to_z-of_z w64 n2 second)

pub bi_complete_by-requires : goal.bi_complete_by-requires
bi_complete_by-requires c = c.in_ok-parts.ensures.ok

pub returns-clause-answer : goal.returns-clause-answer
returns-clause-answer c = search (rules, IsAnswerOf, bi_complete_of, to_z-of_z, to_z, of_z)

pub returns-clause-refused : goal.returns-clause-refused
returns-clause-refused c = λ e is. absurd (not_refused _ _ e c.in_ok-parts.ensures.ok (read c.args.n1 c.args.n2 c.ranges.n1 c.ranges.n2 ∙ is))

pub returns-in_err-parts-clause-refused : goal.returns-in_err-parts-clause-refused
returns-in_err-parts-clause-refused c = search (rules, err_from_is_err_and, same_refusal, read)
