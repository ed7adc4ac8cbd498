-- The intersection of two graphs on the vertices of the first; vertices correspond by their places [GB_BASIC, intersection].
use Rattle.std.specs.Prelude.{ℕ, ℤ, ◌==◌, min, Bool, true, false, List, [], ◌∷◌, map, filter, flat_map, count_by, take, codes, nat_lt, if◌then◌else◌, Result, Ok}
use Rattle.std.specs.List.{range_with_len, enumerate_from}
use Rattle.sgb_vec.specs.declared.panics.Panic.{Panic}
use Rattle.sgb_graph.specs.Graphs.{GraphData}
use Rattle.sgb_graph.specs.Events.{Event}
use Rattle.sgb_graph.specs.Ids.{double_compound_id}
use Rattle.sgb_graph.specs.declared.fields.Link.{Link}
use Rattle.sgb_graph.specs.Descriptions.{Description}
use Rattle.sgb_graph.specs.Made.{plain}
use Rattle.std.specs.Int.{int_max}
use Rattle.sgb_ops.specs.Lengths.{least_of}
use Rattle.sgb_graph.specs.Vertices.{order_of, names_of}
use Rattle.sgb_taken.specs.Taken.{taken}
use Rattle.sgb_graph.specs.IdTexts.{flag_text}
use Rattle.sgb_ops.specs.Compounds.{closing}

-- how many of the arcs lead to u
abbrev pub count_to : ℕ → List Link → ℕ
count_to u links = count_by (λ l. l.tip == u) links

-- the least length of the arcs that lead to u
abbrev pub least_to : ℕ → List Link → ℤ
least_to u links = least_of (map (λ l. l.len) (filter (λ l. l.tip == u) links))

-- how many arcs to u the result has of gs and hs: as many as the one that has fewer; one at most unless parallel ones are wanted
abbrev pub common_count : Bool → ℕ → List Link → List Link → ℕ
common_count true u gs hs = min (count_to u gs) (count_to u hs)
common_count false u gs hs = min 1 (min (count_to u gs) (count_to u hs))

-- the length of the common arc that l of hs stands for: where parallel ones are wanted the greater of the least length in gs
-- and its own; else the greater of the least lengths in gs and in hs, of arcs to its tip
abbrev pub common_length : Bool → List Link → List Link → Link → ℤ
common_length true gs hs l = int_max (least_to l.tip gs) l.len
common_length false gs hs l = int_max (least_to l.tip gs) (least_to l.tip hs)

-- the events from v, in the order of hs: for each arc one, unless those before it are enough to its tip already
abbrev pub common_events : Bool → ℕ → List Link → List Link → List Event
common_events multi v gs hs = flat_map (λ p.
    if nat_lt (count_to p.1.tip (take p.0 hs)) (common_count multi p.1.tip gs hs)
    then record { from = v; to = p.1.tip; len = common_length multi gs hs p.1 } ∷ []
    else []) (enumerate_from 0 hs)

-- the events of all vertices that both graphs have
abbrev pub intersection_events : GraphData → GraphData → Bool → Bool → List Event
intersection_events g h multi directed =
    flat_map (λ v. common_events multi v (taken directed g v) (taken directed h v)) (range_with_len 0 (min (order_of g) (order_of h)))

-- intersection(g, h, multi, directed): it is never refused
abbrev pub intersection_of : GraphData → GraphData → Bool → Bool → Result Description Panic
intersection_of g h multi directed = Ok (plain directed (intersection_events g h multi directed) (names_of g)
    (double_compound_id (codes "intersection(") g.id (codes ",") h.id (closing (flag_text multi ∷ flag_text directed ∷ []))))
