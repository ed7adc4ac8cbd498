-- The names of all forms, and what each begins with.
use Rattle.std.specs.Prelude.{ℕ, List, [], ◌∷◌, ◌++◌, map}
use Rattle.sgb_expr.specs.declared.names.GeneratorName.{GeneratorName}
use Rattle.sgb_expr.specs.declared.names.GeneratorName.TheVariants.{Board, Simplex, Subsets, Complete, Transitive, Empty, Circuit, Cycle, DisjointSubsets, Petersen}
use Rattle.sgb_expr.specs.declared.names.FormName.{FormName}
use Rattle.sgb_expr.specs.declared.names.FormName.TheVariants.{Generator, Complement, Gunion, Intersection, Lines, Product, Induced, BiComplete, Wheel, Stdin}
use Rattle.sgb_expr.specs.Names.{name_opening}

-- each name of a generator, once
abbrev pub all_generator_names : List GeneratorName
all_generator_names =
    Board ∷ Simplex ∷ Subsets ∷ Complete ∷ Transitive ∷ Empty ∷ Circuit ∷ Cycle ∷ DisjointSubsets ∷ Petersen ∷ []

-- each name, once
abbrev pub all_names : List FormName
all_names =
    map (λ name. Generator name) all_generator_names
    ++ Complement ∷ Gunion ∷ Intersection ∷ Lines ∷ Product ∷ Induced ∷ BiComplete ∷ Wheel ∷ Stdin ∷ []

-- the openings of generators, each with its name
unfoldable pub generator_openings : List (List ℕ × GeneratorName)
generator_openings = map (λ name. (name_opening (Generator name), name)) all_generator_names

-- the openings of all forms, each with its name
unfoldable pub openings : List (List ℕ × FormName)
openings = map (λ name. (name_opening name, name)) all_names
