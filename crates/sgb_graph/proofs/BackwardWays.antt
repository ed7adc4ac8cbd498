-- Records of which each leads back to an earlier one, and leads to a vertex: no way of theirs has to be walked.
use Rattle.sgb_vec.proofs.Common.{◌≡◌, ◌<◌, ◌&&◌, ℕ, zero, suc, true, false, List, [], ◌∷◌, length, Option, Some, None, refl, arith, rules, slice_get, list_all, range_with_len, option_map_or, and_from, and_parts, nat_tests}
use Rattle.sgb_graph.specs.Graphs.{GraphData, ends_from, numbers_of}
use Rattle.sgb_graph.specs.Sound.{chain_fits, is_sound, is_vertex, leads_to_vertex}
use Rattle.sgb_graph.specs.inner.Walks.{leads_back, leads_of, chains_end, lists_lead_to_vertices}
use Rattle.sgb_graph.specs.declared.fields.ArcRec.{ArcRec}
use Rattle.sgb_graph.specs.declared.fields.Vertex.{Vertex}
use Rattle.sgb_graph.proofs.Chains.{ends_longer, ends_none, ends_step, is_record, numbers_are_records}
use Rattle.sgb_graph.proofs.EndingWays.{record_within}
use Rattle.sgb_graph.proofs.Lists.{list_all-weaker}
use Rattle.sgb_graph.proofs.MarkedWays.{all_end}
use Rattle.sgb_graph.proofs.TestLemmas.{at_each_below}

-- a number below another
is_below : (j k : ℕ) → chain_fits k (Some j) ≡ true → j < k
is_below j k fits = grind (arith, nat_tests)

-- where each record leads back, the way from record k ends within k steps more
ends_back : (records : List ArcRec) → ((k : ℕ) → k < length records → leads_back records k ≡ true)
    → (bound k : ℕ) → k < bound → k < length records → ends_from (suc k) records (Some k) ≡ true
ends_back records back zero k low below = absurd (omega (arith, low))
ends_back records back (suc bound) k low below =
    by_record (λ j earlier. ends_back records back bound j (omega (arith, earlier, low)) (omega (arith, earlier, below))) (slice_get records k) refl (back k below)
  where
    by_next : ((j : ℕ) → j < k → ends_from (suc j) records (Some j) ≡ true) → (next : Option ℕ) → chain_fits k next ≡ true → ends_from k records next ≡ true
    by_next sooner None fits = ends_none k records
    by_next sooner (Some j) fits = search (rules, is_below, ends_longer)

    by_record : ((j : ℕ) → j < k → ends_from (suc j) records (Some j) ≡ true) → (o : Option ArcRec) → slice_get records k ≡ o
        → option_map_or (λ (r : ArcRec). chain_fits k r.next && is_vertex r.tip) o false ≡ true → ends_from (suc k) records (Some k) ≡ true
    by_record sooner o is fits = grind (arith, ends_step, by_next, and_parts)

all_back : (records : List ArcRec) → list_all (leads_back records) (range_with_len 0 (length records)) ≡ true → chains_end records ≡ true
all_back records all =
    all_end records (λ k below.
    ends_longer (suc k) (length records) records (Some k) (omega (arith, below))
    (ends_back records (λ j there. at_each_below (leads_back records) (length records) all j there) (suc k) k (omega arith) below))

-- where each record leads to a vertex, those on a list do
list_leads : (records : List ArcRec) (first : Option ℕ) → ((k : ℕ) → k < length records → leads_to_vertex records k ≡ true) → leads_of records first ≡ true
list_leads records first each =
    list_all-weaker (is_record records) (leads_to_vertex records) (numbers_of records first) (λ k is. each k (record_within records k is))
    (numbers_are_records (length records) records first)

all_lead : (vertices : List Vertex) (records : List ArcRec) → ((k : ℕ) → k < length records → leads_to_vertex records k ≡ true)
    → lists_lead_to_vertices vertices records ≡ true
all_lead [] records each = refl
all_lead (v ∷ vertices) records each =
    and_from (leads_of records v.arcs) (lists_lead_to_vertices vertices records) (list_leads records v.arcs each) (all_lead vertices records each)

-- of a record that leads back, where it leads
record_leads : (records : List ArcRec) (k : ℕ) → leads_back records k ≡ true → leads_to_vertex records k ≡ true
record_leads records k back = grind (arith, and_parts)

-- records that lead back are sound lists, whatever vertices there are
pub back_is_sound : (g : GraphData) → list_all (leads_back g.records) (range_with_len 0 (length g.records)) ≡ true → is_sound g ≡ true
back_is_sound g all =
    and_from (chains_end g.records) (lists_lead_to_vertices g.vertices g.records) (all_back g.records all)
    (all_lead g.vertices g.records (λ k below. record_leads g.records k (at_each_below (leads_back g.records) (length g.records) all k below)))
