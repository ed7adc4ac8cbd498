-- A graph with one arc more.
use Rattle.sgb_vec.proofs.Common.{rules, ◌≡◌, ◌≢◌, ◌+◌, ◌≤◌, ◌<◌, ℕ, zero, suc, ℤ, true, List, [], ◌∷◌, ◌++◌, length, Option, Some, None, refl, ap, sym, ◌∙◌, arith, slice_get, list_all, and_parts, and_from, lt-ltb, length-append, AllPass-from_list_all, slice_get_within}
use Rattle.sgb_graph.specs.Graphs.{GraphData, ListsEnd, chain_of, ends_of, ends_from, arc_record}
use Rattle.sgb_graph.specs.inner.Chains.{links_of}
use Rattle.sgb_graph.specs.Sound.{arc_kinds, chain_fits}
use Rattle.sgb_graph.specs.inner.Walks.{lists_lead_to_vertices}
use Rattle.sgb_graph.specs.Growth.{IsKept, HasPlainArcs, KeepsAllButArcs, first_arc, link, with_arc, with_first}
use Rattle.sgb_graph.specs.declared.fields.Kind.{Kind}
use Rattle.sgb_graph.specs.declared.fields.Kind.TheVariants.{Z}
use Rattle.sgb_graph.specs.declared.fields.Vertex.{Vertex}
use Rattle.sgb_graph.specs.declared.fields.ArcRec.{ArcRec}
use Rattle.sgb_graph.specs.declared.fields.Link.{Link}
use Rattle.sgb_graph.proofs.Lists.{slice_get-at_place_same, slice_get-at_place_other, slice_get-after, length-at_place, map-at_place, list_all-get, list_all-at_place}
use Rattle.sgb_graph.proofs.Fitting.{vertex_fits_in, record_fits_in, chain_fits_more}
use Rattle.sgb_graph.proofs.Chains.{ends_step, ends_kept, links_step, links_kept, leads_step, leads_kept, links_within, lead_within, step_of}
use Rattle.sgb_graph.proofs.Growing.{NewFit, parts_of, graph_from_parts, is_good, all_good_more, grown, grown_is_graph, chain_kept, chain_at, end_at, lists_end, lists_end_more}

-- a place of a list has an element
pub record HasElement {X : Type 0} (xs : List X) (k : ℕ) : Type 0 where
  pub element : X
  pub is : slice_get xs k ≡ Some element

-- a place below the length has one
pub element_at : {X : Type 0} (xs : List X) (k : ℕ) → k < length xs → HasElement xs k
element_at [] k below = absurd (omega arith)
element_at (x ∷ xs) zero below = record { element = x; is = refl }
element_at (x ∷ xs) (suc k) below = let rest = element_at xs k (omega arith) in record { element = rest.element; is = rest.is }

-- what a vertex has whose list ends: its first record, which is there, from which the way ends; it leads to vertices
-- where all lists do
pub record HasChain (g : GraphData) (u : ℕ) (first : Option ℕ) : Type 0 where
  pub fits : chain_fits (length g.records) first ≡ true
  pub ends : ends_of g.records first ≡ true
  pub leads : lists_lead_to_vertices g.vertices g.records ≡ true → lead_within (length g.records) g.records first ≡ true
  pub chain : chain_of g u ≡ links_of g.records first

-- the first record of a way that ends is there
first_fits : (records : List ArcRec) (first : Option ℕ) → ends_of records first ≡ true → chain_fits (length records) first ≡ true
first_fits records None ends = refl
first_fits records (Some k) ends = let step = step_of records k ends in lt-ltb k (length records) (slice_get_within records k step.here step.is)

-- each vertex has its chain
pub chain_of_vertex : (g : GraphData) (u : ℕ) → ListsEnd g → u < length g.vertices → HasChain g u (first_arc g.vertices u)
chain_of_vertex g u all below =
    let x = element_at g.vertices u below in
    grind (arith, end_at, first_fits, list_all-get, lead_within, chain_at, x)

-- a new record fits, as those after it do
pub plain_fit : (n m : ℕ) (kinds : List Kind) (v : ℕ) (after : Option ℕ) (far : ℤ) (more : List ArcRec) → v < n → chain_fits m after ≡ true → arc_kinds kinds ≡ Z ∷ Z ∷ [] → list_all (record_fits_in n m kinds) more ≡ true
    → list_all (record_fits_in n m kinds) (arc_record v after far ∷ more) ≡ true
plain_fit n m kinds v after far more below fits plain others = grind (arith, and_from, record_fits_in, lt-ltb, fits)

-- a vertex with this record as the first on its list
abbrev pub led_by : ℕ → Vertex → Vertex
led_by k x = record x { arcs = Some k }

-- it stays good where the way from that record leads to vertices
good_led_by : (n : ℕ) (kinds : List Kind) (records : List ArcRec) (k : ℕ) (x : Vertex) → chain_fits (length records) (Some k) ≡ true → lead_within (length records) records (Some k) ≡ true → is_good n kinds records x ≡ true → is_good n kinds records (led_by k x) ≡ true
good_led_by n kinds records k x fits leads good = search (rules, and_parts, vertex_fits_in, lead_within, and_from, fits, leads)

-- a record in front of a chain of the graph, which leads to vertices where its lists do
pub record IsLead (g : GraphData) (steps : ℕ) (records : List ArcRec) (k v : ℕ) (far : ℤ) (chain : List Link) : Type 0 where
  pub ends : ends_from (suc steps) records (Some k) ≡ true
  pub leads : lists_lead_to_vertices g.vertices g.records ≡ true → lead_within (suc steps) records (Some k) ≡ true
  pub links : links_within (suc steps) records (Some k) ≡ link k v far ∷ chain

-- a record that goes on with a way that ends is in front of the chain of that way
pub lead_from : (g : GraphData) (steps : ℕ) (records : List ArcRec) (k v : ℕ) (next : Option ℕ) (far : ℤ) (chain : List Link) → slice_get records k ≡ Some (arc_record v next far) → ends_from steps records next ≡ true
    → (lists_lead_to_vertices g.vertices g.records ≡ true → lead_within steps records next ≡ true) → links_within steps records next ≡ chain → IsLead g steps records k v far chain
lead_from g steps records k v next far chain is ends leads links =
    let new = arc_record v next far in
    record {
      ends = ends_step steps records k new is ∙ ends;
      leads = λ all. leads_step steps records k new is refl (leads all);
      links = links_step steps records k new is ∙ ap (λ ls. link k v far ∷ ls) links;
    }

-- so is one that goes on with an old chain
pub lead_of : (steps : ℕ) (g : GraphData) (more : List ArcRec) (u k v : ℕ) (far : ℤ) → ListsEnd g → u < length g.vertices → length g.records ≤ steps → slice_get (g.records ++ more) k ≡ Some (arc_record v (first_arc g.vertices u) far) → IsLead g steps (g.records ++ more) k v far (chain_of g u)
lead_of steps g more u k v far all below le is =
    let old = chain_of_vertex g u all below in
    let first = first_arc g.vertices u in
    lead_from g steps (g.records ++ more) k v first far (chain_of g u) is (ends_kept steps g.records more first le old.ends)
    (λ lead. leads_kept steps g.records more first le old.ends (old.leads lead)) (links_kept steps g.records more first le old.ends ∙ sym old.chain)

-- vertices stay good where a record that leads to vertices becomes the first one of a vertex
pub put_good : (n steps k u : ℕ) (kinds : List Kind) (records : List ArcRec) (vertices : List Vertex) → length records ≡ suc steps → k < length records → lead_within (suc steps) records (Some k) ≡ true
    → list_all (is_good n kinds records) vertices ≡ true → list_all (is_good n kinds records) (with_first k u vertices) ≡ true
put_good n steps k u kinds records vertices long below leads good =
    let way = ap (λ s. lead_within s records (Some k)) long ∙ leads in
    list_all-at_place (is_good n kinds records) (led_by k) u vertices (λ x h. good_led_by n kinds records k x (lt-ltb k (length records) below) way h) good

-- lists still end where one from which the way ends does
pub put_ends : (steps k u : ℕ) (records : List ArcRec) (vertices : List Vertex) → length records ≡ suc steps → ends_from (suc steps) records (Some k) ≡ true
    → list_all (λ x. ends_of records x.arcs) vertices ≡ true → list_all (λ x. ends_of records x.arcs) (with_first k u vertices) ≡ true
put_ends steps k u records vertices long ends all = grind (arith, list_all-at_place, led_by)

-- the vertex has then the record and the chain after it
pub put_chain : (g old : GraphData) (others : List Vertex) (steps k u v : ℕ) (far : ℤ) (chain : List Link) → u < length others → slice_get g.vertices u ≡ slice_get (with_first k u others) u
    → length g.records ≡ suc steps → IsLead old steps g.records k v far chain → chain_of g u ≡ link k v far ∷ chain
put_chain g old others steps k u v far chain below is long lead =
    let x = element_at others u below in
    grind (arith, chain_at, led_by, slice_get-at_place_same, links_within, x)

-- a graph with more records is kept
pub grown_kept : (g : GraphData) (vertices : List Vertex) (more : List ArcRec) → IsKept g → length vertices ≡ length g.vertices → list_all (is_good (length g.vertices) g.kinds (g.records ++ more)) vertices ≡ true
    → NewFit (length g.vertices) g.kinds g.records more → IsKept (grown g (g.m + length more) vertices more)
grown_kept g vertices more kept same good fit = record {
  graph = graph_from_parts (grown g (g.m + length more) vertices more) (grown_is_graph g (g.m + length more) vertices more (parts_of g kept.graph) same good fit);
  count = omega (arith, kept.count, length-append g.records more);
}

-- the first of the new records stands after the old ones
pub first_is : (records more : List ArcRec) (r : ArcRec) → slice_get (records ++ r ∷ more) (length records) ≡ Some r
first_is records more r =
    ap (slice_get (records ++ r ∷ more)) (omega arith) ∙ slice_get-after records (r ∷ more) 0

-- all but the arcs stays where there is one arc more
pub arc_keeps : (g : GraphData) (u v : ℕ) (far : ℤ) → KeepsAllButArcs g (with_arc g u v far)
arc_keeps g u v far = search (rules, length-at_place, map-at_place)

-- the new record is in front of the list of u
arc_leads : (g : GraphData) (u v : ℕ) (far : ℤ) → ListsEnd g → u < length g.vertices → IsLead g (length g.records) (with_arc g u v far).records (length g.records) v far (chain_of g u)
arc_leads g u v far all u_in = search (rules, lead_of, first_is, arc_record, first_arc)

-- which lists the graph with one arc more has
pub record HasArcPut (g : GraphData) (u v : ℕ) (far : ℤ) : Type 0 where
  pub chain : chain_of (with_arc g u v far) u ≡ link (length g.records) v far ∷ chain_of g u
  pub others : (w : ℕ) → w ≢ u → chain_of (with_arc g u v far) w ≡ chain_of g w
  pub ends : ListsEnd (with_arc g u v far)

-- where those of the graph end
pub arc_put : (g : GraphData) (u v : ℕ) (far : ℤ) → ListsEnd g → u < length g.vertices → HasArcPut g u v far
arc_put g u v far all u_in =
    let new = with_arc g u v far in
    let m = length g.records in
    let more = arc_record v (first_arc g.vertices u) far ∷ [] in
    let long : length new.records ≡ suc m = omega (arith, length-append g.records more) in
    let lead = arc_leads g u v far all u_in in
    record {
      chain = put_chain new g g.vertices m m u v far (chain_of g u) u_in refl long lead;
      others = λ w other. chain_kept g new.m new.vertices more w all (slice_get-at_place_other (led_by m) u w g.vertices other);
      ends = AllPass-from_list_all (λ (x : Vertex). ends_of new.records x.arcs) new.vertices (put_ends m m u new.records g.vertices long lead.ends (lists_end_more g more all));
    }

-- it is kept where the graph is
pub arc_kept : (g : GraphData) (u v : ℕ) (far : ℤ) → IsKept g → HasPlainArcs g → u < length g.vertices → v < length g.vertices → IsKept (with_arc g u v far)
arc_kept g u v far kept plain u_in v_in =
    let has = parts_of g kept.graph in
    let all = lists_end g has in
    let n = length g.vertices in
    let m = length g.records in
    let more = arc_record v (first_arc g.vertices u) far ∷ [] in
    let whole = g.records ++ more in
    let long : length whole ≡ suc m = omega (arith, length-append g.records more) in
    let lead = arc_leads g u v far all u_in in
    let good = put_good n m m u g.kinds whole g.vertices long (omega arith) (lead.leads has.leads) (all_good_more g more has) in
    let after_fits = chain_fits_more m (length whole) (first_arc g.vertices u) (omega arith) (chain_of_vertex g u all u_in).fits in
    grown_kept g (with_first m u g.vertices) more kept (length-at_place (led_by m) u g.vertices) good (record {
      fit = plain_fit n (length whole) g.kinds v (first_arc g.vertices u) far [] v_in after_fits plain refl;
      ends = λ k low high. let at : k ≡ m = omega (arith, long) in rw (at, long) lead.ends;
    })
