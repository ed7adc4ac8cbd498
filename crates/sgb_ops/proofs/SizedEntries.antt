-- Entries without the graphs that they put in: they make the same vertices, and the same events between copies.
use Rattle.sgb_vec.proofs.Common.{◌≡◌, ℕ, zero, suc, Bool, List, [], ◌∷◌, map, take, refl, ap, arith, filter, list_any, sum_by-cons, slice_get-map}
use Rattle.sgb_graph.specs.Graphs.{GraphData}
use Rattle.sgb_graph.specs.declared.fields.Link.{Link}
use Rattle.sgb_moves.proofs.AllVectors.{flat_map-same}
use Rattle.sgb_ops.specs.declared.induced_graphs.entries.Entry.{Entry}
use Rattle.sgb_ops.specs.Entries.{copies_by, copies_of, first_copy, is_unnumbered, merged_count, merged_number, size_of_entry}
use Rattle.sgb_ops.specs.Induced.{events_between}
use Rattle.sgb_graph.specs.Vertices.{places_of}
use Rattle.sgb_taken.specs.Taken.{taken}
use Rattle.sgb_ops.specs.inner.Copies.{sized}
use Rattle.sgb_ops.specs.inner.Entries.{own_total, total_of}
use Rattle.sgb_ops.specs.inner.Induced.{event_between, events_of_arc, events_of_copies, events_of_copy, is_met}

-- one entry
one_sized : (e : Entry) → (size_of_entry (sized e) ≡ size_of_entry e) × (merged_number (sized e) ≡ merged_number e) × (is_unnumbered (sized e) ≡ is_unnumbered e) × ((start : ℕ) → copies_by start (sized e) ≡ copies_by start e)
one_sized e = grind (arith)

-- all of them
pub merged_sized : (es : List Entry) → merged_count (map sized es) ≡ merged_count es
merged_sized [] = refl
merged_sized (e ∷ es) = grind (arith, one_sized, merged_sized es)

pub numbered_sized : (es : List Entry) → list_any is_unnumbered (map sized es) ≡ list_any is_unnumbered es
numbered_sized [] = refl
numbered_sized (e ∷ es) = rw ((one_sized e).2, numbered_sized es) refl

own_sized : (es : List Entry) → own_total (map sized es) ≡ own_total es
own_sized [] = refl
own_sized (e ∷ es) = omega (arith, sum_by-cons size_of_entry (sized e) (map sized es), sum_by-cons size_of_entry e es, (one_sized e).0, own_sized es)

pub total_sized : (es : List Entry) → total_of (map sized es) ≡ total_of es
total_sized es = omega (arith, merged_sized es, own_sized es)

-- where the copies of a vertex begin, and which they are
taken_sized : (es : List Entry) (v : ℕ) → own_total (take v (map sized es)) ≡ own_total (take v es)
taken_sized [] v = grind arith
taken_sized (e ∷ es) zero = refl
taken_sized (e ∷ es) (suc v) = omega (arith, sum_by-cons size_of_entry (sized e) (take v (map sized es)), sum_by-cons size_of_entry e (take v es), (one_sized e).0, taken_sized es v)

pub copies_sized : (es : List Entry) (v : ℕ) → copies_of (map sized es) v ≡ copies_of es v
copies_sized es v = grind (arith, slice_get-map, one_sized, merged_sized, taken_sized)

-- the events between them
module _ (g : GraphData) (es : List Entry) (directed : Bool) where
  arc_sized : (v u : ℕ) (a : Link) → events_of_arc (map sized es) directed v u a ≡ events_of_arc es directed v u a
  arc_sized v u a = ap (λ us. map (event_between u a.len) (filter (is_met directed v u a.tip) us)) (copies_sized es a.tip)

  copy_sized : (v u : ℕ) → events_of_copy g (map sized es) directed v u ≡ events_of_copy g es directed v u
  copy_sized v u = flat_map-same (events_of_arc (map sized es) directed v u) (events_of_arc es directed v u) (arc_sized v u) (taken directed g v)

  vertex_sized : (v : ℕ) → events_of_copies g (map sized es) directed v ≡ events_of_copies g es directed v
  vertex_sized v = grind (arith, flat_map-same, copy_sized, copies_sized)

  pub between_sized : events_between g (map sized es) directed ≡ events_between g es directed
  between_sized = flat_map-same (events_of_copies g (map sized es) directed) (events_of_copies g es directed) vertex_sized (places_of g)

-- the first copy that is looked up
pub first_read : (es copies : List Entry) (v first : ℕ) → copies ≡ map sized es → first ≡ first_copy copies v → first ≡ first_copy es v
first_read es copies v first are is = grind (arith, merged_sized, taken_sized)
