-- Each vector of a bounded sum has one entry for each bound: the law of the family of a bounded sum. It stands here
-- because the code of an impl names the proof of its laws, and code names only what stands in specs.
use Rattle.std.specs.Prelude.{◌≡◌, ◌+◌, ◌==◌, List, ℕ, length, map, sum, Contains}
use Rattle.std.proofs.Common.{◌∙◌}
use Rattle.std.proofs.lemmas.List.{length-map}
use Rattle.std.proofs.lemmas.List.Elements.{All-contains, All-contains_itself, All-filter}
use Rattle.sgb_vec.specs.inner.BoxWidth.{length-box_member}
use Rattle.sgb_vec.specs.Boxes.{box}
use Rattle.sgb_vec.specs.Sums.{BoundedSum, bounded_sums}

-- each vector of a bounded sum has as many entries as there are bounds
pub length-sum_member : (s : BoundedSum) (v : List ℕ) → Contains (bounded_sums s.total s.bounds) v → length v ≡ length s.bounds
unfolding bounded_sums
length-sum_member s v h =
    let sizes = map (λ b. b + 1) s.bounds in
    let adds = λ (w : List ℕ). sum w == s.total in
    let member = All-contains (Contains (box sizes)) _ v (All-filter adds (Contains (box sizes)) (box sizes) (All-contains_itself (box sizes))) h in
    length-box_member sizes v member ∙ length-map s.bounds (λ b. b + 1)
