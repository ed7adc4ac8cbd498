-- A graph with more records at the end is one, and one whose lists end keeps the chains that stay.
use Rattle.sgb_vec.proofs.Common.{◌≡◌, ◌≤◌, ◌<◌, ℕ, Bool, true, ◌&&◌, List, [], ◌++◌, length, Option, Some, None, ap, ◌∙◌, inl, inr, arith, rules, slice_get, nat_le, option_map_or, list_all, and_parts, and_from, ltb-true, cases_lt, length-append, list_all-append, AllPass-from_list_all, list_all-from_AllPass}
use Rattle.sgb_vec.specs.Limits.{most_vertices}
use Rattle.sgb_graph.specs.Graphs.{GraphData, ListsEnd, ends_of, chain_of}
use Rattle.sgb_graph.specs.inner.Chains.{links_of}
use Rattle.sgb_graph.specs.Sound.{IsGraph, arc_kinds, vertex_kinds, graph_kinds, chain_fits, utils_fit}
use Rattle.sgb_graph.specs.inner.Walks.{chains_end, lists_lead_to_vertices}
use Rattle.sgb_graph.specs.Growth.{IsKept, graph_data}
use Rattle.sgb_graph.specs.declared.fields.Kind.{Kind}
use Rattle.sgb_graph.specs.declared.fields.Util.{Util}
use Rattle.sgb_graph.specs.declared.fields.Vertex.{Vertex}
use Rattle.sgb_graph.specs.declared.fields.ArcRec.{ArcRec}
use Rattle.sgb_graph.proofs.TestLemmas.{at_each_below}
use Rattle.sgb_graph.proofs.Lists.{list_all-get, list_all-weaker, list_all-both, list_all-range}
use Rattle.sgb_graph.proofs.Fitting.{vertex_fits_in, record_fits_in, utils_fit_more, vertex_fits_more, record_fits_more}
use Rattle.sgb_graph.proofs.Chains.{ends_none, ends_kept, links_kept, leads_kept, lead_within}

-- what a graph has, part by part
pub record HasParts (g : GraphData) : Type 0 where
  pub few : nat_le (length g.vertices) most_vertices ≡ true
  pub util : utils_fit (length g.vertices) (length g.records) (graph_kinds g.kinds) g.util ≡ true
  pub vertices : list_all (vertex_fits_in (length g.vertices) (length g.records) g.kinds) g.vertices ≡ true
  pub records : list_all (record_fits_in (length g.vertices) (length g.records) g.kinds) g.records ≡ true
  pub ends : chains_end g.records ≡ true
  pub leads : lists_lead_to_vertices g.vertices g.records ≡ true

-- the parts of a graph
pub parts_of : (g : GraphData) → IsGraph g → HasParts g
parts_of g is = grind (arith, and_parts)

-- what has the parts is a graph
pub graph_from_parts : (g : GraphData) → HasParts g → IsGraph g
graph_from_parts g has = grind (arith, and_from)

-- the way from a record, or from none, ends
pub first_ends : (records : List ArcRec) (first : Option ℕ) → chains_end records ≡ true → chain_fits (length records) first ≡ true → ends_of records first ≡ true
first_ends records None ends fits = ends_none (length records) records
first_ends records (Some k) ends fits =
    at_each_below (λ k. ends_of records (Some k)) (length records) ends k (ltb-true k (length records) fits)

-- a vertex fits the graph, and its list leads to vertices
abbrev pub is_good : ℕ → List Kind → List ArcRec → Vertex → Bool
is_good n kinds records x = vertex_fits_in n (length records) kinds x && lead_within (length records) records x.arcs

-- as the vertices of a graph do
pub all_good : (g : GraphData) → HasParts g → list_all (is_good (length g.vertices) g.kinds g.records) g.vertices ≡ true
all_good g has = list_all-both (vertex_fits_in (length g.vertices) (length g.records) g.kinds) (λ (x : Vertex). lead_within (length g.records) g.records x.arcs) g.vertices has.vertices has.leads

-- more records leave a vertex good
pub good_more : (n : ℕ) (kinds : List Kind) (records more : List ArcRec) (x : Vertex) → chains_end records ≡ true → is_good n kinds records x ≡ true → is_good n kinds (records ++ more) x ≡ true
good_more n kinds records more x ends good =
    let longer : length records ≤ length (records ++ more) = omega (arith, length-append records more) in
    let parts = and_parts (vertex_fits_in n (length records) kinds x) (lead_within (length records) records x.arcs) good in
    let start = and_parts (chain_fits (length records) x.arcs) (utils_fit n (length records) (vertex_kinds kinds) x.util) parts.0 in
    search (rules, first_ends, and_from, vertex_fits_in, lead_within, vertex_fits_more, leads_kept, longer, parts, start)

-- so all stay good
pub all_good_more : (g : GraphData) (more : List ArcRec) → HasParts g → list_all (is_good (length g.vertices) g.kinds (g.records ++ more)) g.vertices ≡ true
all_good_more g more has = search (rules, list_all-weaker, is_good, good_more, all_good)

-- the graph with other vertices, more records and another count
abbrev pub grown : GraphData → ℕ → List Vertex → List ArcRec → GraphData
grown g count vertices more = graph_data g.id count g.kinds g.util vertices (g.records ++ more)

-- new records fit, and the ways from them end
pub record NewFit (n : ℕ) (kinds : List Kind) (records more : List ArcRec) : Type 0 where
  pub fit : list_all (record_fits_in n (length (records ++ more)) kinds) more ≡ true
  pub ends : (k : ℕ) → length records ≤ k → k < length (records ++ more) → ends_of (records ++ more) (Some k) ≡ true

-- it is a graph
pub grown_is_graph : (g : GraphData) (count : ℕ) (vertices : List Vertex) (more : List ArcRec) → HasParts g → length vertices ≡ length g.vertices → list_all (is_good (length g.vertices) g.kinds (g.records ++ more)) vertices ≡ true → NewFit (length g.vertices) g.kinds g.records more → HasParts (grown g count vertices more)
grown_is_graph g count vertices more has same good new =
    let n = length g.vertices in
    let m = length g.records in
    let all = g.records ++ more in
    let longer : m ≤ length all = omega (arith, length-append g.records more) in
    record {
      few = rw same has.few;
      util = rw same (utils_fit_more n m (length all) (graph_kinds g.kinds) g.util longer has.util);
      vertices = rw same (list_all-weaker (is_good n g.kinds all) (vertex_fits_in n (length all) g.kinds) vertices (λ x h. (and_parts (vertex_fits_in n (length all) g.kinds x) (lead_within (length all) all x.arcs) h).0) good);
      records = rw same (list_all-append (record_fits_in n (length all) g.kinds) g.records more
          ∙ and_from (list_all (record_fits_in n (length all) g.kinds) g.records) (list_all (record_fits_in n (length all) g.kinds) more)
          (list_all-weaker (record_fits_in n m g.kinds) (record_fits_in n (length all) g.kinds) g.records (λ r h. record_fits_more n m (length all) g.kinds r longer h) has.records) new.fit);
      ends = list_all-range (λ k. ends_of all (Some k)) 0 (length all) (λ k below. elim (cases_lt k m) [
        | inl old ↦ ends_kept (length all) g.records more (Some k) longer (at_each_below (λ k. ends_of g.records (Some k)) m has.ends k old)
        | inr late ↦ new.ends k late (omega arith)
      ]);
      leads = list_all-weaker (is_good n g.kinds all) (λ (x : Vertex). lead_within (length all) all x.arcs) vertices (λ x h. (and_parts (vertex_fits_in n (length all) g.kinds x) (lead_within (length all) all x.arcs) h).1) good;
    }

-- so is a graph with fields of other kinds, that fit them
pub refilled : (g : GraphData) (kinds : List Kind) (own : List Util) (vertices : List Vertex) → IsKept g → length vertices ≡ length g.vertices → arc_kinds kinds ≡ arc_kinds g.kinds
    → utils_fit (length g.vertices) (length g.records) (graph_kinds kinds) own ≡ true → list_all (vertex_fits_in (length g.vertices) (length g.records) kinds) vertices ≡ true → lists_lead_to_vertices vertices g.records ≡ true
    → IsKept (record g { kinds = kinds; util = own; vertices = vertices })
refilled g kinds own vertices kept same arcs fits all leads = grind (arith, parts_of, graph_from_parts, list_all-weaker, record_fits_in)

-- the list of each vertex of a graph ends
pub lists_end : (g : GraphData) → HasParts g → ListsEnd g
lists_end g has = grind (arith, AllPass-from_list_all, list_all-weaker, vertex_fits_in, first_ends, and_parts)

-- so it does in a graph whose lists end
pub end_at : (g : GraphData) (w : ℕ) (x : Vertex) → ListsEnd g → slice_get g.vertices w ≡ Some x → ends_of g.records x.arcs ≡ true
end_at g w x ends is = list_all-get (λ (y : Vertex). ends_of g.records y.arcs) g.vertices w x (list_all-from_AllPass (λ (y : Vertex). ends_of g.records y.arcs) g.vertices ends) is

-- the chain of a vertex by its first record
pub chain_at : (g : GraphData) (w : ℕ) (x : Vertex) → slice_get g.vertices w ≡ Some x → chain_of g w ≡ links_of g.records x.arcs
chain_at g w x is = ap (λ o. option_map_or (λ (v : Vertex). links_of g.records v.arcs) o []) is

-- the chain of a vertex that stays
pub chain_kept : (g : GraphData) (count : ℕ) (vertices : List Vertex) (more : List ArcRec) (w : ℕ) → ListsEnd g → slice_get vertices w ≡ slice_get g.vertices w → chain_of (grown g count vertices more) w ≡ chain_of g w
chain_kept g count vertices more w ends same = grind (arith, vertices, ends, grown, links_kept, length-append, end_at)

-- the lists of the old vertices end among more records
pub lists_end_more : (g : GraphData) (more : List ArcRec) → ListsEnd g → list_all (λ x. ends_of (g.records ++ more) x.arcs) g.vertices ≡ true
lists_end_more g more ends = grind (arith, list_all-weaker, ends_kept, length-append, list_all-from_AllPass)
