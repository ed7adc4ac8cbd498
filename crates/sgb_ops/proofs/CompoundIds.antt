-- The ids of results: whole where they fit, else cut.
use Rattle.std.proofs.Common.{rules, ◌≡◌, ℕ, List, ◌+◌, ◌-◌, ◌/◌, ◌++◌, ◌≤◌, ◌<◌, length, length-append, length-take-le}
use Rattle.sgb_graph.specs.Ids.{compound_id, cut_id, double_compound_id, most_id_bytes}

-- an operand's id that fits, and one that does not
pub one_fits : (s1 id s2 : List ℕ) → length (s1 ++ id ++ s2) ≤ most_id_bytes → compound_id s1 id s2 ≡ s1 ++ id ++ s2
unfolding compound_id
one_fits s1 id s2 fits = search (rules, length-append)

pub one_is_cut : (s1 id s2 : List ℕ) → length (s1 ++ s2) ≤ 151 → most_id_bytes < length (s1 ++ id ++ s2) → (k : ℕ) × (compound_id s1 id s2 ≡ s1 ++ cut_id k id ++ s2) × (length (s1 ++ cut_id k id ++ s2) ≡ most_id_bytes)
unfolding compound_id
one_is_cut s1 id s2 room great =
    (most_id_bytes + 1 - length (s1 ++ s2) - 5, search (rules, length-append), search (rules, length-append, length-take-le))

-- two operands' ids that fit together, and two that do not
pub both_fit : (s1 id1 s2 id2 s3 : List ℕ) → length (s1 ++ id1 ++ s2 ++ id2 ++ s3) ≤ most_id_bytes → double_compound_id s1 id1 s2 id2 s3 ≡ s1 ++ id1 ++ s2 ++ id2 ++ s3
unfolding double_compound_id
both_fit s1 id1 s2 id2 s3 fits = search (rules, length-append)

pub both_are_cut : (s1 id1 s2 id2 s3 : List ℕ) → length (s1 ++ s2 ++ s3) ≤ 151 → most_id_bytes < length (s1 ++ id1 ++ s2 ++ id2 ++ s3) → (k j : ℕ) × (k ≤ j) × (j ≤ k + 1) × (length (s1 ++ s2 ++ s3) + (k + 4) + (j + 4) ≡ most_id_bytes - 1) × (double_compound_id s1 id1 s2 id2 s3 ≡ s1 ++ cut_id k id1 ++ s2 ++ cut_id j id2 ++ s3)
unfolding double_compound_id
both_are_cut s1 id1 s2 id2 s3 room great =
    let available = most_id_bytes + 1 - length (s1 ++ s2 ++ s3) in
    (available / 2 - 5, (available - 9) / 2, search (rules), search (rules), search (rules), search (rules, length-append))
