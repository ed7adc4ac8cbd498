-- What the generators' forms mean: the arguments of each, and the graph that they name.
use Rattle.std.specs.Prelude.{ℕ, ℤ, pos, zero, suc, Bool, true, false, List, [], codes}
use Rattle.std.specs.List.{slice_index_or}
use Rattle.sgb_text.specs.Languages.{After, As, Cons, Fixed, Then}
use Rattle.sgb_gen.specs.Shorthands.{complete, transitive, empty, circuit, cycle, disjoint_subsets, petersen}
use Rattle.sgb_gen.specs.declared.params.BoardParams.{BoardParams}
use Rattle.sgb_gen.specs.declared.params.SimplexParams.{SimplexParams}
use Rattle.sgb_gen.specs.declared.params.SubsetsParams.{SubsetsParams}
use Rattle.sgb_expr.specs.Numbers.{IsInteger, IsBits}
use Rattle.sgb_gen.specs.declared.params.Generator.{Generator}
use Rattle.sgb_gen.specs.declared.params.Generator.TheVariants as generator
use Rattle.sgb_expr.specs.declared.names.GeneratorName.{GeneratorName}
use Rattle.sgb_expr.specs.declared.names.GeneratorName.TheVariants.{Board, Simplex, Subsets, Complete, Transitive, Empty, Circuit, Cycle, DisjointSubsets, Petersen}

-- an integer taken as a flag: true where it is not zero
abbrev pub flag_of : ℤ → Bool
flag_of (pos zero) = false
flag_of _ = true

-- integer number k of some, counted from 0
abbrev pub nth_number : List ℤ → ℕ → ℤ
nth_number numbers k = slice_index_or numbers k (pos 0)

-- integer number k of some, counted from 0, taken as a flag
abbrev pub flag_at : List ℤ → ℕ → Bool
flag_at numbers k = flag_of (nth_number numbers k)

-- the parameters of board(n1,n2,n3,n4,piece,wrap,directed), of these integers in their order
abbrev pub board_params : List ℤ → BoardParams
board_params numbers = let nth = nth_number numbers in
    record { n1 = nth 0; n2 = nth 1; n3 = nth 2; n4 = nth 3; piece = nth 4; wrap = nth 5; directed = flag_of (nth 6) }

-- the parameters of simplex(n,n0,n1,n2,n3,n4,directed), of these integers in their order
abbrev pub simplex_params : List ℤ → SimplexParams
simplex_params numbers = let nth = nth_number numbers in
    record { n = nth 0; n0 = nth 1; n1 = nth 2; n2 = nth 3; n3 = nth 4; n4 = nth 5; directed = flag_of (nth 6) }

-- the parameters of subsets(n,n0,n1,n2,n3,n4,size_bits,directed), of six integers, the bits and the flag
abbrev pub subsets_params : List ℤ → ℕ → ℤ → SubsetsParams
subsets_params numbers size_bits directed = let nth = nth_number numbers in
    record { n = nth 0; n0 = nth 1; n1 = nth 2; n2 = nth 3; n3 = nth 4; n4 = nth 5; size_bits = size_bits; directed = flag_of directed }

-- n words of a language, the first after this separator and each other after a comma, and then this end
abbrev pub AreSeparated : {V : Type 0} → (List ℕ → V → Type 0) → List ℕ → ℕ → List ℕ → List ℕ → List V → Type 0
AreSeparated Word separator zero end = Fixed [] end
AreSeparated Word separator (suc n) end = After separator (Cons Word (AreSeparated Word (codes ",") n end))

-- n integers in an argument list, the first of them after this separator, to its `)`
abbrev pub AreArguments : List ℕ → ℕ → List ℕ → List ℤ → Type 0
AreArguments separator n = AreSeparated IsInteger separator n (codes ")")

-- the text is the arguments of the generator's form of this name, to its `)`, and with them it names this graph
abbrev pub IsGeneratorCall : GeneratorName → List ℕ → Generator → Type 0
IsGeneratorCall Board = As (λ numbers. generator.Board (board_params numbers)) (AreArguments [] 7)
IsGeneratorCall Simplex = As (λ numbers. generator.Simplex (simplex_params numbers)) (AreArguments [] 7)
IsGeneratorCall Subsets = Then (AreSeparated IsInteger [] 6 (codes ",")) (λ numbers. Then IsBits (λ size_bits.
    As (λ directed. generator.Subsets (subsets_params numbers size_bits (nth_number directed 0))) (AreArguments (codes ",") 1)))
IsGeneratorCall Complete = As (λ numbers. generator.Board (complete (nth_number numbers 0))) (AreArguments [] 1)
IsGeneratorCall Transitive = As (λ numbers. generator.Board (transitive (nth_number numbers 0))) (AreArguments [] 1)
IsGeneratorCall Empty = As (λ numbers. generator.Board (empty (nth_number numbers 0))) (AreArguments [] 1)
IsGeneratorCall Circuit = As (λ numbers. generator.Board (circuit (nth_number numbers 0))) (AreArguments [] 1)
IsGeneratorCall Cycle = As (λ numbers. generator.Board (cycle (nth_number numbers 0))) (AreArguments [] 1)
IsGeneratorCall DisjointSubsets = As (λ numbers. generator.Subsets (disjoint_subsets (nth_number numbers 0) (nth_number numbers 1))) (AreArguments [] 2)
IsGeneratorCall Petersen = As (λ numbers. generator.Subsets petersen) (AreArguments [] 0)
