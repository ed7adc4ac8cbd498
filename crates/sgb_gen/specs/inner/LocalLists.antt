-- What the lists of a generator's graph have in common.
use Rattle.std.specs.Prelude.{◌≡◌}
use Rattle.sgb_vec.specs.Boxes.{box}
use Rattle.sgb_gen.specs.Generators.{vectors_of}
use Rattle.sgb_gen.specs.declared.local_lists.KeptLists.{KeptLists}
use Rattle.sgb_gen.specs.declared.local_lists.KeptLists.TheVariants as kept
use Rattle.sgb_gen.specs.declared.locals.Local.{Local}
use Rattle.sgb_gen.specs.declared.locals.Local.TheVariants as local

-- they are those of these accepted parameters, and the vectors that are found are the vertices
abbrev pub AreListsOf : Local → KeptLists → Type 0
AreListsOf l (kept.Board board family) = (l ≡ local.Board board) × (box family.now ≡ vectors_of l)
AreListsOf l (kept.Simplex simplex places) = (l ≡ local.Simplex simplex.now) × (places ≡ vectors_of l)
AreListsOf l (kept.Subsets subsets places) = (l ≡ local.Subsets subsets.now) × (places ≡ vectors_of l)
