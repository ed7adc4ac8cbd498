-- Lengths of arcs of which the first ones are the same: those between two places.
use Rattle.std.proofs.Common.{◌≡◌, ◌∙◌, ◌<◌, ◌≤◌, ◌+◌, ◌-◌, ℕ, ℤ, List, ◌++◌, length, take, drop, replicate, sym, ap, arith}
use Rattle.std.specs.List.{slice_range}
use Rattle.std.proofs.lemmas.List.{drop-append-le, drop-replicate, length-replicate, take-append-le, take-replicate}
use Rattle.std.proofs.Math.Seq.{drop-append-add, take-append-add}

-- behind so many that are the same
front_dropped : (n begin : ℕ) (len : ℤ) (others : List ℤ) → begin ≤ n → drop begin (replicate n len ++ others) ≡ replicate (n - begin) len ++ others
front_dropped n begin len others l =
    drop-append-le begin (replicate n len) others (omega (arith, l, length-replicate n len)) ∙ ap (λ xs. xs ++ others) (drop-replicate begin n len)

-- those between two places among the same ones
pub cut_same : (n begin end : ℕ) (len : ℤ) (others : List ℤ) → begin ≤ end → end ≤ n → replicate (end - begin) len ≡ slice_range (replicate n len ++ others) begin end
cut_same n begin end len others order within =
    sym (
    ap (take (end - begin)) (front_dropped n begin len others (omega (arith, order, within)))
    ∙ (take-append-le (end - begin) (replicate (n - begin) len) others (omega (arith, order, within, length-replicate (n - begin) len))
    ∙ take-replicate (end - begin) (n - begin) len (omega (arith, order, within)))
    )

-- among the others
pub cut_others : (n begin end : ℕ) (len : ℤ) (others : List ℤ) → n ≤ begin → begin ≤ end
    → slice_range others (begin - n) (end - n) ≡ slice_range (replicate n len ++ others) begin end
cut_others n begin end len others l order =
    let xs = replicate n len in
    let at : begin ≡ length xs + (begin - n) = omega (arith, length-replicate n len, l) in
    let many : end - n - (begin - n) ≡ end - begin = omega (arith, l, order) in
    ap (λ k. take k (drop (begin - n) others)) many
    ∙ ap (take (end - begin)) (sym (ap (λ k. drop k (xs ++ others)) at ∙ drop-append-add xs others (begin - n)))

-- from one of the same to one of the others
pub cut_both : (n begin end : ℕ) (len : ℤ) (others : List ℤ) → begin < n → n < end
    → replicate (n - begin) len ++ take (end - n) others ≡ slice_range (replicate n len ++ others) begin end
cut_both n begin end len others low high =
    let xs = replicate (n - begin) len in
    let many : end - begin ≡ length xs + (end - n) = omega (arith, length-replicate (n - begin) len, low, high) in
    sym (
    ap (take (end - begin)) (front_dropped n begin len others (omega (arith, low)))
    ∙ (ap (λ k. take k (xs ++ others)) many ∙ take-append-add xs others (end - n))
    )
