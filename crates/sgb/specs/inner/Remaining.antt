-- The vectors of a family from the place on at which an answer begins.
use Rattle.std.specs.Prelude.{◌≡◌, ℕ, suc, List, map, drop, slice_get, Option, Some, None, IfSome, Ok}
use Rattle.std.specs.List.{Contains}
use Rattle.std.specs.Option.{MatchOption}
use Rattle.sgb_vec.specs.Names.{name_of_vector}
use Rattle.sgb_gen.specs.VectorGraphs.{vertex_among}
use Rattle.sgb.specs.Locals.{left_out_after}
use Rattle.sgb.specs.Outcomes.{left_out}
use Rattle.sgb.specs.inner.Named.{vertex_named}
use Rattle.sgb_requests.specs.declared.requests.Resume.{Resume}

-- an answer begins after this member, or with the first one: what is left of the members is what is not left out
abbrev pub BeginsAfter : List (List ℕ) → Resume → Option (List ℕ) → Type 0
BeginsAfter members resume start =
    IfSome start (λ x. Contains members x)
    × ((k : ℕ) × (left_out (map name_of_vector members) resume ≡ Ok k) × (drop k members ≡ drop (left_out_after members start) members))

-- the last of the first so many members, or of all; or there is none
abbrev pub IsLastSkipped : List (List ℕ) → ℕ → Option (List ℕ) → Type 0
IsLastSkipped members count r =
    MatchOption r (drop count members ≡ members)
    (λ x. (k : ℕ) × (slice_get members k ≡ Some x) × (drop count members ≡ drop (suc k) members))

-- the member of this name, or none of them has the name
abbrev pub IsMemberNamed : List (List ℕ) → List ℕ → Option (List ℕ) → Type 0
IsMemberNamed members name r =
    MatchOption r (vertex_named name (map name_of_vector members) ≡ None)
    (λ x. Contains members x × (vertex_named name (map name_of_vector members) ≡ Some (vertex_among members x)))

-- these are the members from a place on
abbrev pub IsRest : List (List ℕ) → List (List ℕ) → Type 0
IsRest members rest = (k : ℕ) × (rest ≡ drop k members)
