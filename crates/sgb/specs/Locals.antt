-- The listing of a generator's graph from its vectors, one list of arcs at a time.
use Rattle.std.specs.Prelude.{ℕ, suc, Bool, Option, List, [], ◌++◌, if◌then◌else◌}
use Rattle.std.specs.Option.{option_map_or}
use Rattle.sgb_gen.specs.VectorGraphs.{vertex_among}
use Rattle.sgb_graph.specs.Graphs.{GraphData}
use Rattle.sgb.specs.Texts.{blocks, head}

-- how many first vertices have no block: those up to the vector after which the listing begins, or none
abbrev pub left_out_after : List (List ℕ) → Option (List ℕ) → ℕ
left_out_after vectors last = option_map_or (λ x. suc (vertex_among vectors x)) last 0

-- the head of a graph where it is asked for, else nothing
abbrev pub head_if : Bool → GraphData → List ℕ
head_if headed g = if headed then head g else []

-- the listing of a graph from vertex k on, with its head where that is asked for
abbrev pub family_text : GraphData → Bool → ℕ → List ℕ
family_text g headed k = head_if headed g ++ blocks g k
