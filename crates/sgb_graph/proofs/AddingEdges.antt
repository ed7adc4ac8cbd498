-- A graph with one edge more.
use Rattle.sgb_vec.proofs.Common.{rules, ◌≡◌, ◌≢◌, ◌+◌, ◌≤◌, ◌<◌, ◌==◌, ℕ, suc, ℤ, min, max, true, List, [], ◌∷◌, ◌++◌, length, Option, Some, refl, ap, sym, subst, ◌∙◌, inl, inr, arith, slice_get, if◌then◌else◌, lt-ltb, eq-eqb, ne_eqb, cases_eq, length-append, AllPass-from_list_all}
use Rattle.sgb_graph.specs.Graphs.{GraphData, ListsEnd, chain_of, ends_of, arc_record}
use Rattle.sgb_graph.specs.Sound.{chain_fits}
use Rattle.sgb_graph.specs.Growth.{IsKept, HasPlainArcs, KeepsAllButArcs, first_arc, link, with_edge, with_first}
use Rattle.sgb_graph.specs.inner.Growth.{after_lower}
use Rattle.sgb_graph.specs.declared.fields.Vertex.{Vertex}
use Rattle.sgb_graph.specs.declared.fields.ArcRec.{ArcRec}
use Rattle.sgb_graph.specs.declared.fields.Link.{Link}
use Rattle.sgb_graph.proofs.Lists.{slice_get-at_place_other, slice_get-after, length-at_place, map-at_place}
use Rattle.sgb_graph.proofs.Fitting.{chain_fits_more}
use Rattle.sgb_graph.proofs.Growing.{parts_of, all_good_more, chain_kept, lists_end, lists_end_more}
use Rattle.sgb_graph.proofs.AddingArcs.{IsLead, chain_of_vertex, first_is, grown_kept, lead_of, led_by, plain_fit, put_chain, put_ends, put_good, lead_from}

-- all but the arcs stays where there is one edge more
pub edge_keeps : (g : GraphData) (u v : ℕ) (far : ℤ) → KeepsAllButArcs g (with_edge g u v far)
edge_keeps g u v far = search (rules, length-at_place, map-at_place)

-- the two new records
abbrev lower : GraphData → ℕ → ℕ → ℤ → ArcRec
lower g u v far = arc_record (max u v) (after_lower (length g.records) g.vertices u v) far

abbrev higher : GraphData → ℕ → ℕ → ℤ → ArcRec
higher g u v far = arc_record (min u v) (first_arc g.vertices (max u v)) far

-- the chain that follows the lower one: where the edge is a loop, the higher one is its first
abbrev pub chain_after : GraphData → ℕ → ℕ → ℤ → List Link
chain_after g u v far = if u == v then link (length g.records + 1) (min u v) far ∷ chain_of g (max u v) else chain_of g (min u v)

-- the records of an edge, each in front of its chain
record HasLeads (g : GraphData) (u v : ℕ) (far : ℤ) : Type 0 where
  long : length (with_edge g u v far).records ≡ suc (suc (length g.records))
  fits : chain_fits (length g.records + 2) (after_lower (length g.records) g.vertices u v) ≡ true
  high : IsLead g (suc (length g.records)) (with_edge g u v far).records (length g.records + 1) (min u v) far (chain_of g (max u v))
  low : IsLead g (suc (length g.records)) (with_edge g u v far).records (length g.records) (max u v) far (chain_after g u v far)

edge_leads : (g : GraphData) (u v : ℕ) (far : ℤ) → ListsEnd g → u < length g.vertices → v < length g.vertices → HasLeads g u v far
edge_leads g u v far all u_in v_in =
    let m = length g.records in
    let r = lower g u v far in
    let s = higher g u v far in
    let whole = g.records ++ r ∷ s ∷ [] in
    let up : (steps : ℕ) → m ≤ steps → IsLead g steps whole (m + 1) (min u v) far (chain_of g (max u v)) =
    λ steps le. lead_of steps g (r ∷ s ∷ []) (max u v) (m + 1) (min u v) far all (omega arith) le (slice_get-after g.records (r ∷ s ∷ []) 1) in
    let first : (o : Option ℕ) → r.next ≡ o → slice_get whole m ≡ Some (arc_record (max u v) o far) = grind (arith, first_is, max) in
    let known : chain_fits (m + 2) r.next ≡ true → IsLead g (suc m) whole m (max u v) far (chain_after g u v far) → HasLeads g u v far =
    λ fits low. record { long = omega (arith, length-append g.records (r ∷ s ∷ [])); fits = fits; high = up (suc m) (omega arith); low = low } in
    elim (cases_eq u v) [
      | inl same ↦
          let after : r.next ≡ Some (m + 1) = rw (eq-eqb u v same) refl in
          let chain : link (m + 1) (min u v) far ∷ chain_of g (max u v) ≡ chain_after g u v far = rw (eq-eqb u v same) refl in
          let next = up m (omega arith) in
          known (rw after (lt-ltb (m + 1) (m + 2) (omega arith)))
          (lead_from g (suc m) whole m (max u v) (Some (m + 1)) far _ (first (Some (m + 1)) after) next.ends next.leads (next.links ∙ chain))
      | inr other ↦
          let start = first_arc g.vertices (min u v) in
          let after : r.next ≡ start = rw (ne_eqb u v other) refl in
          let chain : chain_of g (min u v) ≡ chain_after g u v far = rw (ne_eqb u v other) refl in
          known (rw after (chain_fits_more m (m + 2) start (omega arith) (chain_of_vertex g (min u v) all (omega arith)).fits))
          (subst (IsLead g (suc m) whole m (max u v) far) chain (lead_of (suc m) g (r ∷ s ∷ []) (min u v) m (max u v) far all (omega arith) (omega arith) (first start after)))
    ]

-- which lists the graph with one edge more has
pub record HasEdgePut (g : GraphData) (u v : ℕ) (far : ℤ) : Type 0 where
  pub loop : u ≡ v → chain_of (with_edge g u v far) u ≡ link (length g.records) u far ∷ link (length g.records + 1) u far ∷ chain_of g u
  pub smaller : u ≢ v → chain_of (with_edge g u v far) (min u v) ≡ link (length g.records) (max u v) far ∷ chain_of g (min u v)
  pub greater : u ≢ v → chain_of (with_edge g u v far) (max u v) ≡ link (length g.records + 1) (min u v) far ∷ chain_of g (max u v)
  pub others : (w : ℕ) → w ≢ u → w ≢ v → chain_of (with_edge g u v far) w ≡ chain_of g w
  pub ends : ListsEnd (with_edge g u v far)

-- where those of the graph end
pub edge_put : (g : GraphData) (u v : ℕ) (far : ℤ) → ListsEnd g → u < length g.vertices → v < length g.vertices → HasEdgePut g u v far
edge_put g u v far all u_in v_in =
    let new = with_edge g u v far in
    let m = length g.records in
    let more = lower g u v far ∷ higher g u v far ∷ [] in
    let half = with_first (m + 1) (max u v) g.vertices in
    let many = length-at_place (led_by (m + 1)) (max u v) g.vertices in
    let at = edge_leads g u v far all u_in v_in in
    let down = put_chain new g half (suc m) m (min u v) (max u v) far (chain_after g u v far) (omega (arith, many)) refl at.long at.low in
    record {
      loop = λ same.
          let least : min u v ≡ u = omega arith in
          let most : max u v ≡ u = omega arith in
          ap (chain_of new) (sym least) ∙ down ∙ rw (eq-eqb u v same, least, most) refl;
      smaller = λ other. down ∙ rw (ne_eqb u v other) refl;
      greater = λ other. put_chain new g g.vertices (suc m) (m + 1) (max u v) (min u v) far (chain_of g (max u v)) (omega arith) (slice_get-at_place_other (led_by m) (min u v) (max u v) half (λ e. omega arith)) at.long at.high;
      others = λ w not_u not_v. chain_kept g new.m new.vertices more w all
          (slice_get-at_place_other (led_by m) (min u v) w half (λ e. omega arith) ∙ slice_get-at_place_other (led_by (m + 1)) (max u v) w g.vertices (λ e. omega arith));
      ends = AllPass-from_list_all (λ (x : Vertex). ends_of new.records x.arcs) new.vertices
          (put_ends (suc m) m (min u v) new.records half at.long at.low.ends (put_ends (suc m) (m + 1) (max u v) new.records g.vertices at.long at.high.ends (lists_end_more g more all)));
    }

-- it is kept where the graph is
pub edge_kept : (g : GraphData) (u v : ℕ) (far : ℤ) → IsKept g → HasPlainArcs g → u < length g.vertices → v < length g.vertices → IsKept (with_edge g u v far)
edge_kept g u v far kept plain u_in v_in =
    let has = parts_of g kept.graph in
    let all = lists_end g has in
    let n = length g.vertices in
    let m = length g.records in
    let r = lower g u v far in
    let s = higher g u v far in
    let more = r ∷ s ∷ [] in
    let whole = g.records ++ more in
    let half = with_first (m + 1) (max u v) g.vertices in
    let at = edge_leads g u v far all u_in v_in in
    let good = put_good n (suc m) (m + 1) (max u v) g.kinds whole g.vertices at.long (omega (arith, at.long)) (at.high.leads has.leads) (all_good_more g more has) in
    let after_higher = chain_fits_more m (length whole) (first_arc g.vertices (max u v)) (omega (arith, at.long)) (chain_of_vertex g (max u v) all (omega arith)).fits in
    let after_lower = chain_fits_more (m + 2) (length whole) r.next (omega (arith, at.long)) at.fits in
    let fit = plain_fit n (length whole) g.kinds (max u v) r.next far (s ∷ []) (omega arith) after_lower plain (plain_fit n (length whole) g.kinds (min u v) s.next far [] (omega arith) after_higher plain refl) in
    grown_kept g (with_first m (min u v) half) more kept (length-at_place (led_by m) (min u v) half ∙ length-at_place (led_by (m + 1)) (max u v) g.vertices)
    (put_good n (suc m) m (min u v) g.kinds whole half at.long (omega (arith, at.long)) (at.low.leads has.leads) good) (grind (arith, at, fit))
