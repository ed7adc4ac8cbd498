use Rattle.std.proofs.Common.{◌∙◌, ◌++◌, ◌∷◌, [], ap, rules, w64}
use Rattle.std.proofs.lemmas.Int.{to_z-of_z}
use Rattle.sgb_arrays.proofs.rows.Rows.push_arc.Goals as goal

pub returns-clause-lengths : goal.returns-clause-lengths
returns-clause-lengths c =
    c.in_ok-push-2.ensures.items ∙ ap (λ k. c.args.self.now.lengths.items ++ k ∷ []) (to_z-of_z w64 c.from.result (search rules) ∙ c.from.ensures)
