-- What may be wrong with arrays that tell a graph: one thing at a time, and nothing at each limit; and an arc that they tell.
use Rattle.std.proofs.Common.{◌≡◌, ℕ, ℤ, pos, true, false, List, [], ◌∷◌, map, Option, Some, None, refl}
use Rattle.std.specs.Prelude.{codes}
use Rattle.sgb_graph.specs.Graphs.{GraphData, chain_of, numbers_from}
use Rattle.sgb_arrays.specs.Given.{event_given, fault_of, graph_given, is_text_of}
use Rattle.sgb_arrays.specs.declared.given.Unmade.{Unmade}
use Rattle.sgb_arrays.specs.declared.given.Unmade.TheVariants as unmade

-- of two vertices a and b, the second of which may have an empty name
abbrev faults : (starts from to : List ℕ) (lengths : List ℤ) → (id : List ℕ) → Option Unmade
faults starts from to lengths id = fault_of starts (codes "ab") from to lengths id

abbrev table : List ℕ
table = 0 ∷ 1 ∷ 2 ∷ []

pub empty_name : faults (0 ∷ 2 ∷ 2 ∷ []) [] [] [] [] ≡ None
empty_name = refl

-- no table; one that starts late
pub tables_wrong : (faults [] [] [] [] [] ≡ Some unmade.Length) × (fault_of [] [] [] [] [] [] ≡ Some unmade.Length)
    × (faults (1 ∷ 2 ∷ []) [] [] [] [] ≡ Some unmade.Length)
tables_wrong = (refl, refl, refl)

-- one end more than lengths, at one side alone
pub ends_left : (faults table (0 ∷ 0 ∷ []) (1 ∷ []) (pos 1 ∷ []) [] ≡ Some unmade.Length)
    × (faults table (0 ∷ []) (1 ∷ 0 ∷ []) (pos 1 ∷ []) [] ≡ Some unmade.Length)
ends_left = (refl, refl)

-- the second arc starts at no vertex
pub start_wrong : faults table (0 ∷ 2 ∷ []) (1 ∷ 1 ∷ []) (pos 1 ∷ pos 1 ∷ []) [] ≡ Some unmade.Vertices
start_wrong = refl

pub id_wrong : faults table [] [] [] (codes "\"") ≡ Some unmade.Text
id_wrong = refl

-- three bytes are at most three, and no at most two; each is to be one of a string
pub texts : map (λ most. is_text_of most (codes "abc")) (2 ∷ 3 ∷ 4 ∷ []) ≡ false ∷ true ∷ true ∷ []
texts = refl

pub no_text : is_text_of 4 (34 ∷ 97 ∷ []) ≡ false
no_text = refl

-- the second arc; one without a length
pub event : event_given (0 ∷ 1 ∷ []) (2 ∷ 3 ∷ []) (pos 5 ∷ pos 6 ∷ []) 1 ≡ record { from = 1; to = 3; len = pos 6 }
event = refl

pub event_without_length : event_given (0 ∷ []) (2 ∷ []) [] 0 ≡ record { from = 0; to = 2; len = pos 0 }
event_without_length = refl

-- an arc from a to b
abbrev arc : GraphData
arc = graph_given table (codes "ab") (0 ∷ []) (1 ∷ []) (pos 5 ∷ []) true (codes "mine")

pub arc_named : map (λ v. v.name) arc.vertices ≡ codes "a" ∷ codes "b" ∷ []
arc_named = refl

pub arc_lists : map (λ l. l.tip) (chain_of arc 0) ∷ map (λ l. l.tip) (chain_of arc 1) ∷ [] ≡ (1 ∷ []) ∷ [] ∷ []
unfolding numbers_from
arc_lists = refl
