use Rattle.std.proofs.Common.{◌≡◌, ◌+◌, ◌-◌, ◌≤◌, [], ◌∷◌, get_or}
use Rattle.sgb_vec.specs.Limits.{most_vertices}
use Rattle.sgb_vec.specs.inner.SumRows.{count_of_sum}
use Rattle.sgb_vec.proofs.Convolutions.{products_from}
use Rattle.sgb_vec.proofs.sums.counts.count_at.Given as goal

-- what was counted, and the products that are left
abbrev pub invariant-loop-place : goal.invariant-loop-place
invariant-loop-place l =
    (l.count ≤ most_vertices)
    × (l.count + products_from (λ i. get_or l.row i 0) (λ k. count_of_sum k (l.a ∷ l.b ∷ [])) l.place (l.total + 1 - l.place)
    ≡ products_from (λ i. get_or l.row i 0) (λ k. count_of_sum k (l.a ∷ l.b ∷ [])) 0 (l.total + 1))
