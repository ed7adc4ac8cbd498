-- Three vertices as arrays: an arc from the first to the second and one to the third, none from the second, and one back.
use Rattle.std.specs.Prelude.{◌≡◌, ℕ, pos, [], ◌∷◌, codes, refl, Some, None}
use Rattle.sgb_graph.specs.Graphs.{GraphData, numbers_from}
use Rattle.sgb_graph.specs.Made.{no_fields, no_kinds}
use Rattle.sgb_graph.specs.declared.fields.Ref.TheVariants.{At}
use Rattle.sgb_graph.specs.declared.fields.Util.TheVariants.{Nothing}
use Rattle.sgb_arrays.specs.Lists.{part_by_starts}
use Rattle.sgb_arrays.specs.Runs.{AreNames, AreRows, part_starts, parts_of}

abbrev pub graph : GraphData
graph = record {
  id = codes "g";
  m = 3;
  kinds = no_kinds;
  util = no_fields;
  vertices = record { name = codes "a"; arcs = Some 1; util = no_fields }
      ∷ record { name = codes "bc"; arcs = None; util = no_fields }
      ∷ record { name = codes "d"; arcs = Some 2; util = no_fields } ∷ [];
  records = record { tip = At 1; next = None; len = pos 5; a = Nothing; b = Nothing }
      ∷ record { tip = At 2; next = Some 0; len = pos 6; a = Nothing; b = Nothing }
      ∷ record { tip = At 0; next = None; len = pos 7; a = Nothing; b = Nothing } ∷ [];
}

-- later arcs come first in a list
pub rows :
    AreRows graph 0 3 (0 ∷ 2 ∷ 2 ∷ 3 ∷ []) (2 ∷ 1 ∷ 0 ∷ []) (pos 6 ∷ pos 5 ∷ pos 7 ∷ [])
    × (part_by_starts {X = ℕ} (2 ∷ 1 ∷ 0 ∷ []) (0 ∷ 2 ∷ 2 ∷ 3 ∷ []) 2 ≡ 0 ∷ [])
unfolding part_starts numbers_from parts_of
rows = (record { starts_are = refl; tips_are = refl; lengths_are = refl }, refl)

pub names : AreNames graph 0 3 (0 ∷ 1 ∷ 3 ∷ 4 ∷ []) (codes "abcd")
unfolding parts_of part_starts
names = record { starts_are = refl; bytes_are = refl }
