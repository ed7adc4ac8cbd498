-- What a handle holds, and what a call on it answers.
use Rattle.std.specs.Prelude.{◌≡◌, ◌⊎◌, ℕ, List, Option, Some, None, IsSomeAnd, Ok, Err}
use Rattle.std.specs.Option.{option_map}
use Rattle.sgb_graph.specs.Graphs.{GraphData}
use Rattle.sgb_arrays.specs.OpenGraphs.{IsListed, graph_open}
use Rattle.sgb_c.specs.Answers.{IsGraphNamed, number_of}
use Rattle.sgb_c.specs.declared.answers.Answer.{Answer}
use Rattle.sgb_c.specs.declared.answers.Answer.TheVariants.{Done, AlreadyOpen, NotOpen}
use Rattle.sgb_c.specs.declared.handles.GraphHandle.{GraphHandle}

-- the graph that a handle holds, if one is open
abbrev pub graph_in : GraphHandle → Option GraphData
graph_in handle = option_map (λ h. graph_open h.graph) handle.held.value

-- the graph that a handle holds is not built, so that a call on it may take memory
abbrev pub IsListedIn : GraphHandle → Type 0
IsListedIn handle = IsSomeAnd handle.held.value (λ h. IsListed h.graph)

-- Opening the graph that a text names answers this number: that it is done, and the handle holds it; or why there is no graph,
-- which includes want of memory, and the handle is as it was; or that another graph is open, which stays.
abbrev pub IsOpened : List ℕ → List ℕ → Option GraphData → Option GraphData → ℕ → Type 0
IsOpened text input (Some g) new number = (number ≡ number_of AlreadyOpen) × (new ≡ Some g)
IsOpened text input None new number =
    ((number ≡ number_of Done) × ((g : GraphData) × IsGraphNamed text input (Ok g) × (new ≡ Some g)))
    ⊎ (((why : Answer) × (number ≡ number_of why) × IsGraphNamed text input (Err why)) × (new ≡ None))

-- A call on the graph of a handle answers this number: that it is done, and what has to be done with the graph is; or what
-- does not fit it, and all is left as it was; or that no graph is open.
abbrev pub IsAnswerOn : Option GraphData → (GraphData → Type 0) → (GraphData → Answer → Type 0) → Type 0 → ℕ → Type 0
IsAnswerOn None done misfits left number = (number ≡ number_of NotOpen) × left
IsAnswerOn (Some g) done misfits left number =
    ((number ≡ number_of Done) × done g) ⊎ (((why : Answer) × (number ≡ number_of why) × misfits g why) × left)
