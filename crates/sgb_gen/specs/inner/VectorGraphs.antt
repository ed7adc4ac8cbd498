-- The coordinates of vectors, put into a graph [GB_BASIC].
use Rattle.std.specs.Prelude.{◌≡◌, ℕ, List, map}
use Rattle.sgb_graph.specs.Graphs.{GraphData, chain_of}
use Rattle.sgb_gen.specs.VectorGraphs.{fields_of_vector, kinds_of_family}

-- the new graph is the old one with the coordinates of the vectors in the fields of its vertices
pub record HasCoordinates (vectors : List (List ℕ)) (old new : GraphData) : Type 0 where
  pub id : new.id ≡ old.id
  pub count : new.m ≡ old.m
  pub kinds : new.kinds ≡ kinds_of_family vectors
  pub util : new.util ≡ old.util
  pub records : new.records ≡ old.records
  pub names : map (λ v. v.name) new.vertices ≡ map (λ v. v.name) old.vertices
  pub fields : map (λ v. v.util) new.vertices ≡ map fields_of_vector vectors
  pub firsts : map (λ v. v.arcs) new.vertices ≡ map (λ v. v.arcs) old.vertices
  pub chains : (v : ℕ) → chain_of new v ≡ chain_of old v
