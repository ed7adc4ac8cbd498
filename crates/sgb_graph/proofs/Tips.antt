-- Arcs lead to vertices of the graph.
use Rattle.sgb_vec.proofs.Common.{◌≡◌, ◌<◌, ℕ, zero, suc, true, List, [], ◌∷◌, Option, Some, None, refl, arith, slice_get, option_map_or, All, list_all, flat_map, and_parts, ltb-true, All-nil, All-cons}
use Rattle.sgb_graph.specs.Graphs.{numbers_from, link_of, vertex_of}
use Rattle.sgb_graph.specs.Sound.{ref_fits}
use Rattle.sgb_graph.specs.declared.fields.Kind.{Kind}
use Rattle.sgb_graph.specs.declared.fields.Ref.{Ref}
use Rattle.sgb_graph.specs.declared.fields.ArcRec.{ArcRec}
use Rattle.sgb_graph.proofs.Lists.{list_all-get}
use Rattle.sgb_graph.proofs.Fitting.{record_fits_in}
use Rattle.sgb_graph.proofs.Chains.{links_within}

-- the vertex of a tip that fits is one
tip_below : (n : ℕ) (tip : Ref) → 0 < n → ref_fits n tip ≡ true → vertex_of tip < n
tip_below n tip some e = grind (arith, ltb-true)

-- the arcs on a way lead to vertices below n where all records do
pub tips_below : (fuel n m : ℕ) (kinds : List Kind) (records : List ArcRec) (first : Option ℕ) → 0 < n → list_all (record_fits_in n m kinds) records ≡ true → All (λ l. l.tip < n) (links_within fuel records first)
unfolding numbers_from
tips_below zero n m kinds records first some fit = All-nil (λ l. l.tip < n)
tips_below (suc fuel) n m kinds records None some fit = All-nil (λ l. l.tip < n)
tips_below (suc fuel) n m kinds records (Some k) some fit = by_record (λ next. tips_below fuel n m kinds records next some fit) (slice_get records k) refl
  where
    by_record : ((next : Option ℕ) → All (λ l. l.tip < n) (links_within fuel records next)) → (o : Option ArcRec) → slice_get records k ≡ o
        → All (λ l. l.tip < n) (flat_map (link_of records) (option_map_or (λ (r : ArcRec). k ∷ numbers_from fuel records r.next) o []))
    by_record later o is = grind (arith, All-nil, list_all-get, record_fits_in, and_parts, All-cons, links_within, tip_below)
