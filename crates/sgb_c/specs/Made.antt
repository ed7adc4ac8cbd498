-- What a call answers that makes a graph, which another handle holds then.
use Rattle.std.specs.Prelude.{◌≡◌, ◌⊎◌, ◌++◌, ℕ, List, [], ◌∷◌, Option, Some, None, Result, Ok, Err}
use Rattle.std.specs.Option.{option_map_or}
use Rattle.sgb_vec.specs.declared.panics.Panic.{Panic}
use Rattle.sgb_vec.specs.declared.panics.Panic.TheVariants.{NoRoom}
use Rattle.sgb_graph.specs.Graphs.{GraphData}
use Rattle.sgb_graph.specs.Descriptions.{Description, IsAnswerOf}
use Rattle.sgb_ops.specs.declared.induced_graphs.entries.Entry.{Entry}
use Rattle.sgb_ops.specs.declared.induced_graphs.entries.Entry.TheVariants as entry
use Rattle.sgb_arrays.specs.Given.{IsUnmade}
use Rattle.sgb_arrays.specs.declared.given.Unmade.{Unmade}
use Rattle.sgb_c.specs.Answers.{answer_of_unmade, number_of}
use Rattle.sgb_c.specs.declared.answers.Answer.TheVariants as answer
use Rattle.sgb_c.specs.declared.entry_handles.EntriesHandle.{EntriesHandle}

-- what a definition says of two graphs, where both handles hold one
abbrev pub of_both : {T : Type 0} → (GraphData → GraphData → T) → Option GraphData → Option GraphData → Option T
of_both f (Some g) (Some h) = Some (f g h)
of_both f _ _ = None

-- Making a graph answers this number, where this is what the definition says of the operands, if all are open: done, and the handle
-- holds what is described; or the refusal, or no memory, and it holds none; or an operand is not open; or one is held, which stays.
abbrev pub IsMade : Option (Result Description Panic) → (old new : Option GraphData) → ℕ → Type 0
IsMade value (Some g) new number = (number ≡ number_of answer.AlreadyOpen) × (new ≡ Some g)
IsMade None None new number = (number ≡ number_of answer.NotOpen) × (new ≡ None)
IsMade (Some value) None new number =
    ((number ≡ number_of answer.Done) × ((g : GraphData) × IsAnswerOf value (Ok g) × (new ≡ Some g)))
    ⊎ (((p : Panic) × (number ≡ number_of (answer.Panic p)) × IsAnswerOf value (Err p)) × (new ≡ None))

-- Making a graph of arrays answers this number, where this is wrong with them, or they tell this graph: done, and the handle holds
-- it; or what is wrong, or want of memory where nothing is, and the handle holds none; or another graph is held, which stays.
abbrev pub IsGiven : Option Unmade → GraphData → (old new : Option GraphData) → ℕ → Type 0
IsGiven fault g (Some h) new number = (number ≡ number_of answer.AlreadyOpen) × (new ≡ Some h)
IsGiven fault g None new number = ((number ≡ number_of answer.Done) × (fault ≡ None) × (new ≡ Some g))
    ⊎ (((why : Unmade) × (number ≡ number_of (answer_of_unmade why)) × IsUnmade fault why) × (new ≡ None))

-- the entries of a list
abbrev pub entries_in : EntriesHandle → List Entry
entries_in handle = option_map_or (λ l. l.entries.items) handle.held.value []

-- Adding an entry answers this number: it is done, and it stands after the others; or memory ran out, and they are as before.
abbrev pub IsAdded : Entry → (old new : List Entry) → ℕ → Type 0
IsAdded one old new number = ((number ≡ number_of answer.Done) × (new ≡ old ++ one ∷ []))
    ⊎ ((number ≡ number_of (answer.Panic NoRoom)) × (new ≡ old))

-- Adding the graph of a handle does so, where one is open: the entry is that graph; else the answer is that none is.
abbrev pub IsGraphAdded : Option GraphData → (old new : List Entry) → ℕ → Type 0
IsGraphAdded None old new number = (number ≡ number_of answer.NotOpen) × (new ≡ old)
IsGraphAdded (Some g) old new number = IsAdded (entry.Graph g) old new number
