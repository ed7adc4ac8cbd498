-- Chains of records: what more records at the end leave as it was.
use Rattle.sgb_vec.proofs.Common.{rules, ◌≡◌, ◌≤◌, ℕ, zero, suc, Bool, true, false, List, [], ◌∷◌, ◌++◌, length, Option, Some, None, refl, ap, sym, subst, ◌∙◌, arith, slice_get, is_some, list_all, flat_map, option_map_or, append-nil, and_parts, and_from}
use Rattle.sgb_graph.specs.Graphs.{numbers_from, ends_from, numbers_of, ends_of, vertex_of, link_of}
use Rattle.sgb_graph.specs.inner.Chains.{links_of}
use Rattle.sgb_graph.specs.Sound.{is_vertex, leads_to_vertex}
use Rattle.sgb_graph.specs.Growth.{link}
use Rattle.sgb_graph.specs.declared.fields.ArcRec.{ArcRec}
use Rattle.sgb_graph.specs.declared.fields.Link.{Link}
use Rattle.sgb_vec.proofs.Lists.{slice_get-left}
use Rattle.sgb_graph.proofs.Lists.{list_all-weaker, list_all-both, flat_map-agree}

-- the way from no record ends at once
pub ends_none : (fuel : ℕ) (records : List ArcRec) → ends_from fuel records None ≡ true
unfolding ends_from
ends_none zero records = refl
ends_none (suc fuel) records = refl

-- and meets no record
pub numbers_none : (fuel : ℕ) (records : List ArcRec) → numbers_from fuel records None ≡ []
unfolding numbers_from
numbers_none zero records = refl
numbers_none (suc fuel) records = refl

-- the way from a record goes on from the next
pub ends_step : (fuel : ℕ) (records : List ArcRec) (k : ℕ) (r : ArcRec) → slice_get records k ≡ Some r → ends_from (suc fuel) records (Some k) ≡ ends_from fuel records r.next
unfolding ends_from
ends_step fuel records k r is = ap (λ o. option_map_or (λ (x : ArcRec). ends_from fuel records x.next) o false) is

-- and meets that record first
pub numbers_step : (fuel : ℕ) (records : List ArcRec) (k : ℕ) (r : ArcRec) → slice_get records k ≡ Some r → numbers_from (suc fuel) records (Some k) ≡ k ∷ numbers_from fuel records r.next
unfolding numbers_from
numbers_step fuel records k r is = ap (λ o. option_map_or (λ (x : ArcRec). k ∷ numbers_from fuel records x.next) o []) is

-- a way that ends, ends after each record that it meets
pub record EndsAfter (fuel : ℕ) (records : List ArcRec) (k : ℕ) : Type 0 where
  pub here : ArcRec
  pub is : slice_get records k ≡ Some here
  pub ends : ends_from fuel records here.next ≡ true

-- so it goes from there
pub ends_after : (fuel : ℕ) (records : List ArcRec) (k : ℕ) → ends_from (suc fuel) records (Some k) ≡ true → EndsAfter fuel records k
unfolding ends_from
ends_after fuel records k e = grind (arith)

-- a way that ends without a step starts from no record
pub no_start : (records : List ArcRec) (k : ℕ) → ends_from zero records (Some k) ≡ true → ⊥
unfolding ends_from
no_start records k e = cc

-- a way that ends, ends with more records and more steps
pub ends_more : (fuel steps : ℕ) (records more : List ArcRec) (first : Option ℕ) → fuel ≤ steps → ends_from fuel records first ≡ true → ends_from steps (records ++ more) first ≡ true
ends_more fuel steps records more None le e = ends_none steps (records ++ more)
ends_more zero steps records more (Some k) le e = absurd (no_start records k e)
ends_more (suc fuel) zero records more (Some k) le e = absurd (omega arith)
ends_more (suc fuel) (suc steps) records more (Some k) le e = grind (arith, ends_after, ends_step, slice_get-left, ends_more fuel steps records more (ends_after fuel records k e).here.next (omega arith) (ends_after fuel records k e).ends)

-- and meets the same records
pub numbers_more : (fuel steps : ℕ) (records more : List ArcRec) (first : Option ℕ) → fuel ≤ steps → ends_from fuel records first ≡ true → numbers_from steps (records ++ more) first ≡ numbers_from fuel records first
numbers_more fuel steps records more None le e = numbers_none steps (records ++ more) ∙ sym (numbers_none fuel records)
numbers_more zero steps records more (Some k) le e = absurd (no_start records k e)
numbers_more (suc fuel) zero records more (Some k) le e = absurd (omega arith)
numbers_more (suc fuel) (suc steps) records more (Some k) le e = grind (arith, ends_after, numbers_step, slice_get-left, numbers_more fuel steps records more (ends_after fuel records k e).here.next (omega arith) (ends_after fuel records k e).ends)

-- each record on a way is one
unfoldable pub is_record : List ArcRec → ℕ → Bool
is_record records k = is_some (slice_get records k)

-- so it is all records
pub numbers_are_records : (fuel : ℕ) (records : List ArcRec) (first : Option ℕ) → list_all (is_record records) (numbers_from fuel records first) ≡ true
unfolding numbers_from is_record
numbers_are_records zero records first = refl
numbers_are_records (suc fuel) records first = grind (arith, numbers_are_records fuel records)

-- it is the same with more records
record_more : (records more : List ArcRec) (k : ℕ) → is_record records k ≡ true → slice_get (records ++ more) k ≡ slice_get records k
unfolding is_record
record_more records more k e = grind (arith, slice_get-left)

-- so is its arc
link_more : (records more : List ArcRec) (k : ℕ) → is_record records k ≡ true → link_of (records ++ more) k ≡ link_of records k
link_more records more k e = rw (record_more records more k e) refl

-- and whether it leads to a vertex
leads_more : (records more : List ArcRec) (k : ℕ) → is_record records k ≡ true → leads_to_vertex (records ++ more) k ≡ leads_to_vertex records k
leads_more records more k e = rw (record_more records more k e) refl

-- the arcs on a way of so many steps at most
abbrev pub links_within : ℕ → List ArcRec → Option ℕ → List Link
links_within fuel records first = flat_map (link_of records) (numbers_from fuel records first)

-- each of them leads to a vertex
abbrev pub lead_within : ℕ → List ArcRec → Option ℕ → Bool
lead_within fuel records first = list_all (leads_to_vertex records) (numbers_from fuel records first)

-- a chain that ends in the records ends in more records
pub ends_kept : (steps : ℕ) (records more : List ArcRec) (first : Option ℕ) → length records ≤ steps → ends_of records first ≡ true → ends_from steps (records ++ more) first ≡ true
ends_kept steps records more first le e = ends_more (length records) steps records more first le e

-- and has the same arcs
pub links_kept : (steps : ℕ) (records more : List ArcRec) (first : Option ℕ) → length records ≤ steps → ends_of records first ≡ true → links_within steps (records ++ more) first ≡ links_of records first
links_kept steps records more first le e =
    ap (flat_map (link_of (records ++ more))) (numbers_more (length records) steps records more first le e)
    ∙ flat_map-agree (is_record records) (link_of (records ++ more)) (link_of records) (numbers_of records first) (link_more records more) (numbers_are_records (length records) records first)

-- which lead to vertices as before
pub leads_kept : (steps : ℕ) (records more : List ArcRec) (first : Option ℕ) → length records ≤ steps → ends_of records first ≡ true → lead_within (length records) records first ≡ true → lead_within steps (records ++ more) first ≡ true
leads_kept steps records more first le e leads =
    let met = numbers_of records first in
    let both = list_all-both (is_record records) (leads_to_vertex records) met (numbers_are_records (length records) records first) leads in
    rw (numbers_more (length records) steps records more first le e) (list_all-weaker _ (leads_to_vertex (records ++ more)) met (λ k h. grind (arith, and_parts, leads_more)) both)

-- the arcs from a record on: its own, and those from the next one on
pub links_step : (steps : ℕ) (records : List ArcRec) (k : ℕ) (r : ArcRec) → slice_get records k ≡ Some r → links_within (suc steps) records (Some k) ≡ link k (vertex_of r.tip) r.len ∷ links_within steps records r.next
links_step steps records k r is = search (rules, numbers_step, is)

-- they lead to vertices where these do
pub leads_step : (steps : ℕ) (records : List ArcRec) (k : ℕ) (r : ArcRec) → slice_get records k ≡ Some r → is_vertex r.tip ≡ true → lead_within steps records r.next ≡ true → lead_within (suc steps) records (Some k) ≡ true
leads_step steps records k r is tip rest = grind (arith, numbers_step, is, and_from)

-- no more arcs are on a way than it has steps
pub length-links : (fuel : ℕ) (records : List ArcRec) (first : Option ℕ) → length (links_within fuel records first) ≤ fuel
unfolding numbers_from
length-links zero records first = omega arith
length-links (suc fuel) records first = grind (arith, length-links fuel records)

-- from none there is no arc
pub links_of_none : (records : List ArcRec) → links_of records None ≡ []
links_of_none records = ap (flat_map (link_of records)) (numbers_none (length records) records)

-- a way that ends, ends with more steps
pub ends_longer : (fuel steps : ℕ) (records : List ArcRec) (first : Option ℕ) → fuel ≤ steps → ends_from fuel records first ≡ true → ends_from steps records first ≡ true
ends_longer fuel steps records first le e =
    subst (λ rs. ends_from steps rs first ≡ true) (append-nil records) (ends_more fuel steps records [] first le e)

-- and meets the same records
pub numbers_longer : (fuel steps : ℕ) (records : List ArcRec) (first : Option ℕ) → fuel ≤ steps → ends_from fuel records first ≡ true → numbers_from steps records first ≡ numbers_from fuel records first
numbers_longer fuel steps records first le e =
    subst (λ rs. numbers_from steps rs first ≡ numbers_from fuel records first) (append-nil records) (numbers_more fuel steps records [] first le e)

-- a way that ends from a record: it meets that one, and then those of the way from the next one, which ends
pub record IsStep (records : List ArcRec) (k : ℕ) : Type 0 where
  pub here : ArcRec
  pub is : slice_get records k ≡ Some here
  pub numbers : numbers_of records (Some k) ≡ k ∷ numbers_of records here.next
  pub links : links_of records (Some k) ≡ link k (vertex_of here.tip) here.len ∷ links_of records here.next
  pub ends : ends_of records here.next ≡ true

-- so it goes from a record on
pub step_of : (records : List ArcRec) (k : ℕ) → ends_of records (Some k) ≡ true → IsStep records k
step_of records k ends = by_length (length records) refl
  where
    by_length : (n : ℕ) → length records ≡ n → IsStep records k
    by_length zero is = absurd (no_start records k (rw is at ends))
    by_length (suc n) is =
        let b = ends_after n records k (rw is at ends) in
        let same = numbers_longer n (length records) records b.here.next (omega arith) b.ends in
        let rest = ends_longer n (length records) records b.here.next (omega arith) b.ends in
        let numbers : numbers_of records (Some k) ≡ k ∷ numbers_of records b.here.next = grind (arith, is, numbers_step) in
        grind (arith, b, numbers, rest)
