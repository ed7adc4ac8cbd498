-- The arcs from a record on.
use Rattle.std.specs.Prelude.{ℕ, List, Option}
use Rattle.std.specs.List.{flat_map}
use Rattle.sgb_graph.specs.Graphs.{link_of, numbers_of}
use Rattle.sgb_graph.specs.declared.fields.ArcRec.{ArcRec}
use Rattle.sgb_graph.specs.declared.fields.Link.{Link}

-- the arcs from a first record on
abbrev pub links_of : List ArcRec → Option ℕ → List Link
links_of records first = flat_map (link_of records) (numbers_of records first)
