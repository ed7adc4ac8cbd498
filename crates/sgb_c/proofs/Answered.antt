-- What calls on a handle's graph answer.
use Rattle.std.proofs.Common.{◌≡◌, ◌∙◌, ℕ, ap, inl, inr}
use Rattle.std.specs.Prelude.{Option, Some, Result, Ok, Err, OnOk, IfErr}
use Rattle.std.specs.Option.{option_map}
use Rattle.sgb_graph.specs.Graphs.{GraphData}
use Rattle.sgb_arrays.specs.OpenGraphs.{graph_open}
use Rattle.sgb_arrays.specs.declared.refusals.Wrong.{Wrong}
use Rattle.sgb_c.specs.Answers.{IsAnswerFor, number_of}
use Rattle.sgb_c.specs.Handles.{IsAnswerOn}
use Rattle.sgb_c.specs.inner.Causes.{answer_of_filling}
use Rattle.sgb_c.specs.declared.answers.Answer.{Answer}
use Rattle.sgb_c.specs.declared.held.Held.{Held}

-- a call that fills arrays
pub filled_on : {T : Type 0} (held : Option Held) (h : Held) (done : GraphData → Type 0) (causes : Option Held → GraphData → Wrong → Type 0) (left : Type 0) (r : Result T Wrong) (why : Answer) (number : ℕ)
    → held ≡ Some h → OnOk r (done (graph_open h.graph)) → IfErr r (λ cause. causes (Some h) (graph_open h.graph) cause × left) → why ≡ answer_of_filling r → number ≡ number_of why
    → IsAnswerOn (option_map (λ x. graph_open x.graph) held) done (λ g. IsAnswerFor (causes held g)) left number
filled_on held h done causes left (Ok x) why number is filled refused of told = rw is (inl (told ∙ ap number_of of, filled))
filled_on held h done causes left (Err cause) why number is filled (refused, kept) of told = rw is (inr ((why, told, (cause, refused, of)), kept))

-- two or three arrays that are left as they were
pub two_left : {T : Type 0} (C : Wrong → Type 0) (A B : Type 0) (r : Result T Wrong) → IfErr r (λ cause. C cause × A × B) → IfErr r (λ cause. C cause × (A × B))
two_left C A B (Ok x) said = said
two_left C A B (Err cause) (c, a, b) = (c, (a, b))

pub three_left : {T : Type 0} (C : Wrong → Type 0) (A B D : Type 0) (r : Result T Wrong) → IfErr r (λ cause. C cause × A × B × D) → IfErr r (λ cause. C cause × (A × B × D))
three_left C A B D (Ok x) said = said
three_left C A B D (Err cause) (c, a, b, d) = (c, (a, b, d))
