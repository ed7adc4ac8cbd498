-- The arcs taken of a list, met one by one [GB_BASIC, gunion].
use Rattle.std.specs.Prelude.{◌≡◌, ℕ, ◌+◌, ◌==◌, Bool, true, false, ◌&&◌, List, [], ◌∷◌, ◌++◌, Option, Some, None, if◌then◌else◌}
use Rattle.sgb_graph.specs.declared.fields.Link.{Link}
use Rattle.sgb_taken.specs.Taken.{each_edge_once}

-- for arcs on the list of v: l is a loop, and k, which follows it, has the next number and so is its other record
abbrev pub is_loop_with : ℕ → Link → Link → Bool
is_loop_with v l k = (l.tip == v) && (k.number == l.number + 1)

-- the arcs taken of these arcs of vertex v
abbrev pub taken_of : Bool → ℕ → List Link → List Link
taken_of true v links = links
taken_of false v links = each_edge_once v links

-- the arcs without the first one, where it has the number after this one, of a loop that was taken
abbrev pub without_other : Option ℕ → List Link → List Link
without_other None links = links
without_other (Some number) [] = []
without_other (Some number) (l ∷ links) = if l.number == number + 1 then links else l ∷ links

-- the arcs taken of these, which follow a loop of this number, if any
abbrev pub taken_after : Bool → ℕ → Option ℕ → List Link → List Link
taken_after directed v after_loop links = taken_of directed v (without_other after_loop links)

-- of an arc and those that follow it: the arc where it is taken, and then those taken of the others
abbrev pub IsStep : Bool → ℕ → Option ℕ → Link → Bool → Option ℕ → Type 0
IsStep directed v after_loop link is_taken loop =
    (links : List Link) → taken_after directed v after_loop (link ∷ links)
    ≡ (if is_taken then link ∷ [] else []) ++ taken_after directed v loop links
