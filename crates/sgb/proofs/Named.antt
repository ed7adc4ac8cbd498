-- The first vertex of a name.
use Rattle.std.proofs.Common.{◌≡◌, ◌+◌, ◌<◌, ℕ, Bool, true, false, nat_eq, List, [], length, Some, None, arith}
use Rattle.std.specs.List.{slice_get, slice_index_or}
use Rattle.std.specs.Cmp.Lexicographic.{pointwise}
use Rattle.std.proofs.lemmas.List.Sums.{position_or_len_is}
use Rattle.std.proofs.lemmas.Option.{slice_get_within, get_or_from_slice_get}
use Rattle.std.proofs.lemmas.Bool.{cases_lt}
use Rattle.sgb.specs.inner.Named.{vertex_named}

-- this vertex has the name
abbrev pub has_name : List ℕ → List ℕ → Bool
has_name name other = pointwise nat_eq other name

-- none of the first so many has the name
abbrev pub NoneBefore : List (List ℕ) → List ℕ → ℕ → Type 0
NoneBefore names name i = (k : ℕ) → k < i → has_name name (slice_index_or names k []) ≡ false

-- nor has one more
pub none_before-more : (names : List (List ℕ)) (name other : List ℕ) (i : ℕ) → slice_get names i ≡ Some other → has_name name other ≡ false
    → NoneBefore names name i → NoneBefore names name (i + 1)
none_before-more names name other i at differs none = grind (arith, cases_lt, get_or_from_slice_get)

-- the first vertex of a name that the vertex has
pub named_here : (names : List (List ℕ)) (name other : List ℕ) (i : ℕ) → slice_get names i ≡ Some other → has_name name other ≡ true
    → NoneBefore names name i → vertex_named name names ≡ Some i
named_here names name other i at same none =
    let first = position_or_len_is (has_name name) names i [] (grind (arith, slice_get_within)) none (grind (arith, get_or_from_slice_get)) in
    grind (arith, slice_get_within)

-- a name that no vertex has
pub named_nowhere : (names : List (List ℕ)) (name : List ℕ) (n : ℕ) → n ≡ length names → NoneBefore names name n → vertex_named name names ≡ None
named_nowhere names name n size none =
    let first = position_or_len_is (has_name name) names n [] (omega (arith, size)) none (λ h. absurd (omega arith)) in
    grind arith
