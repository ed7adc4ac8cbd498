-- The names of the forms of expressions.
use Rattle.std.specs.Prelude.{ℕ, List, codes}
use Rattle.sgb_expr.specs.declared.names.GeneratorName.TheVariants.{Board, Simplex, Subsets, Complete, Transitive, Empty, Circuit, Cycle, DisjointSubsets, Petersen}
use Rattle.sgb_expr.specs.declared.names.FormName.{FormName}
use Rattle.sgb_expr.specs.declared.names.FormName.TheVariants.{Generator, Complement, Gunion, Intersection, Lines, Product, Induced, BiComplete, Wheel, Stdin}

-- a form's name, with the parenthesis after it where it has arguments
abbrev pub name_opening : FormName → List ℕ
name_opening (Generator Board) = codes "board("
name_opening (Generator Simplex) = codes "simplex("
name_opening (Generator Subsets) = codes "subsets("
name_opening (Generator Complete) = codes "complete("
name_opening (Generator Transitive) = codes "transitive("
name_opening (Generator Empty) = codes "empty("
name_opening (Generator Circuit) = codes "circuit("
name_opening (Generator Cycle) = codes "cycle("
name_opening (Generator DisjointSubsets) = codes "disjoint_subsets("
name_opening (Generator Petersen) = codes "petersen("
name_opening Complement = codes "complement("
name_opening Gunion = codes "gunion("
name_opening Intersection = codes "intersection("
name_opening Lines = codes "lines("
name_opening Product = codes "product("
name_opening Induced = codes "induced("
name_opening BiComplete = codes "bi_complete("
name_opening Wheel = codes "wheel("
name_opening Stdin = codes "stdin"
