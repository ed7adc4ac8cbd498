-- What a construction says of the graph that it makes, and which graphs are that graph [GB_GRAPH].
use Rattle.std.specs.Prelude.{◌≡◌, ◌⊎◌, ℕ, Bool, List, map, All, Result, Ok, Err}
use Rattle.sgb_vec.specs.declared.panics.Panic.{Panic}
use Rattle.sgb_vec.specs.declared.panics.Panic.TheVariants.{NoRoom}
use Rattle.sgb_graph.specs.Graphs.{GraphData, HasNoFields}
use Rattle.sgb_graph.specs.Events.{Event, HasArcsOf}
use Rattle.sgb_graph.specs.declared.fields.Kind.{Kind}
use Rattle.sgb_graph.specs.declared.fields.Util.{Util}

-- a graph as its construction tells it: its id, whether its events are arcs or edges, the events in order, the kinds of its
-- utility fields, the graph's own six fields, and each vertex's name and six fields. The fields of its arcs hold nothing
pub record Description : Type 0 where
  pub id : List ℕ
  pub directed : Bool
  pub events : List Event
  pub kinds : List Kind
  pub util : List Util
  pub names : List (List ℕ)
  pub fields : List (List Util)

-- g is the graph that is described
pub record IsGraphOf (d : Description) (g : GraphData) : Type 0 where
  pub id : g.id ≡ d.id
  pub kinds : g.kinds ≡ d.kinds
  pub util : g.util ≡ d.util
  pub names : map (λ v. v.name) g.vertices ≡ d.names
  pub fields : map (λ v. v.util) g.vertices ≡ d.fields
  pub arcs : HasArcsOf d.directed d.events g
  pub arc_fields : All HasNoFields g.records

-- the result is the graph that is described, or the stated refusal; or it is out of memory
abbrev pub IsAnswerOf : Result Description Panic → Result GraphData Panic → Type 0
IsAnswerOf (Ok d) (Ok g) = IsGraphOf d g
IsAnswerOf (Ok d) (Err e) = e ≡ NoRoom
IsAnswerOf (Err f) (Ok g) = ⊥
IsAnswerOf (Err f) (Err e) = (e ≡ f) ⊎ (e ≡ NoRoom)
