use Rattle.sgb_vec.proofs.Common.{rules, ◌≡◌, ◌∷◌, ◌++◌, [], sym, ap, ◌∙◌, IfSome_then}
use Rattle.sgb_vec.specs.inner.SumRows.{count_of_sum}
use Rattle.sgb_vec.proofs.SumCounts.{count_of_sum-three_taken}
use Rattle.sgb_vec.proofs.sums.rows.count_in_place.Goals as goal

pub returns : goal.returns
returns c =
    let bounds = c.args.bounds.now in
    let copied : c.unwrap-others.result.items ≡ bounds = search rules in
    let all : c.push.new.self.items ≡ bounds ++ c.args.first ∷ [] = c.push.ensures.items ∙ ap (λ xs. xs ++ c.args.first ∷ []) copied in
    let same = count_of_sum-three_taken c.args.first c.take_greatest_or_zero-a.result c.take_greatest_or_zero-b.result c.take_greatest_or_zero-c.result bounds c.push.new.self.items c.take_greatest_or_zero-a.new.bounds.items c.take_greatest_or_zero-b.new.bounds.items c.take_greatest_or_zero-c.new.bounds.items all c.take_greatest_or_zero-a.ensures c.take_greatest_or_zero-b.ensures c.take_greatest_or_zero-c.ensures c.args.total in
    IfSome_then c.count_with_three.result c.count_with_three.ensures (λ count e. e ∙ ap (λ xs. count_of_sum c.args.total (c.take_greatest_or_zero-a.result ∷ c.take_greatest_or_zero-b.result ∷ c.take_greatest_or_zero-c.result ∷ xs)) c.as_slice.ensures.value ∙ sym same)
