-- A field of integers as an array: the vertices a b c d with 10, 20, 30 and 40 in the field x, and with none in the others.
use Rattle.std.specs.Prelude.{◌≡◌, ◌≤◌, ℕ, ℤ, pos, List, [], ◌∷◌, None, codes, refl}
use Rattle.std.proofs.Common.{arith}
use Rattle.sgb_graph.specs.Graphs.{GraphData}
use Rattle.sgb_graph.specs.Made.{no_fields}
use Rattle.sgb_graph.specs.declared.fields.Kind.TheVariants.{Z, I}
use Rattle.sgb_graph.specs.declared.fields.Util.{Util}
use Rattle.sgb_graph.specs.declared.fields.Util.TheVariants.{Nothing, Int}
use Rattle.sgb_arrays.specs.Fields.{HoldsInts, IsIntsRefusal, int_of, ints_of}
use Rattle.sgb_arrays.specs.declared.refusals.Wrong.TheVariants as wrong

-- the fields u to z of a vertex
abbrev fields : ℕ → List Util
fields x = Nothing ∷ Nothing ∷ Nothing ∷ Int (pos x) ∷ Nothing ∷ Nothing ∷ []

abbrev tens : GraphData
tens = record {
  id = codes "tens";
  m = 0;
  kinds = Z ∷ Z ∷ Z ∷ I ∷ Z ∷ Z ∷ Z ∷ Z ∷ Z ∷ Z ∷ Z ∷ Z ∷ Z ∷ Z ∷ [];
  util = no_fields;
  vertices = record { name = codes "a"; arcs = None; util = fields 10 } ∷ record { name = codes "b"; arcs = None; util = fields 20 }
      ∷ record { name = codes "c"; arcs = None; util = fields 30 } ∷ record { name = codes "d"; arcs = None; util = fields 40 } ∷ [];
  records = [];
}

pub of_the_middle : ints_of tens 3 1 2 ≡ pos 20 ∷ pos 30 ∷ []
unfolding ints_of
of_the_middle = refl

-- what holds no integer counts as 0
pub of_nothing : int_of Nothing ≡ pos 0
of_nothing = refl

-- two from the fourth on are none of the graph; the field u holds no integers; three places are too few for four
pub refusals : IsIntsRefusal tens 3 3 2 2 wrong.Vertices × IsIntsRefusal tens 0 0 4 4 wrong.Field × IsIntsRefusal tens 3 0 4 3 wrong.Length
refusals = (beyond, (omega arith, none), (omega arith, refl, few))
  where
    beyond : 5 ≤ 4 → ⊥
    beyond there = absurd (omega (arith, there))

    none : HoldsInts tens 0 → ⊥
    none is = absurd cc

    few : ◌≡◌ {A = ℕ} 3 4 → ⊥
    few is = absurd (omega (arith, is))

-- it takes no memory
pub no_other : IsIntsRefusal tens 3 0 4 4 wrong.NoRoom → ⊥
no_other is = is
