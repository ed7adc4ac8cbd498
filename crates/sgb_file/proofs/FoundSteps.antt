-- Lemmas on readers one after another: a record is read field by field.
use Rattle.sgb_vec.proofs.Common.{ap, sym, ◌∙◌, append_assoc, append-nil, arith, get_or, set, add-one, ◌≡◌, ℕ, ℤ, ◌+◌, ◌<◌, ◌≤◌, true, false, List, [], ◌∷◌, ◌++◌, length, take, drop, codes, Option, Some, None, Err, option_map, refl, drop-cons, take_more_set, take_all, drop_all, set-get_or, get_or-set_other, nat_tests}
use Rattle.sgb_text.proofs.Findings.{Found, found_as, after_prefix, given}
use Rattle.sgb_vec.specs.declared.panics.Panic.{Panic}
use Rattle.sgb_vec.specs.declared.panics.Panic.TheVariants.{Syntax}
use Rattle.sgb_graph.specs.Graphs.{GraphData}
use Rattle.sgb_graph.specs.Growth.{graph_data}
use Rattle.sgb_graph.specs.Ids.{most_id_bytes}
use Rattle.sgb_graph.specs.Sound.{arc_kinds, graph_kinds}
use Rattle.sgb_graph.specs.declared.fields.Kind.{Kind}
use Rattle.sgb_graph.specs.declared.fields.Kind.TheVariants.{I}
use Rattle.sgb_graph.specs.declared.fields.Util.{Util}
use Rattle.sgb_graph.specs.declared.fields.Util.TheVariants.{Int, Nothing}
use Rattle.sgb_file.specs.Fields.{most_number_digits}
use Rattle.sgb_file.specs.inner.FieldValues.{integer_of, number_of}
use Rattle.sgb_file.specs.inner.Heads.{Counts, Head}
use Rattle.sgb_file.specs.inner.ReadFields.{field_at, plain_at, string_at}
use Rattle.sgb_file.specs.inner.ReadRecords.{after_comma, graph_record_at, more_fields_at, vertex_record_at, arc_record_at}
use Rattle.sgb_file.specs.inner.Found.{IsFoundBy, IsPassedBy, is_used, next_at, next_field_at}
use Rattle.sgb_file.specs.inner.Reading.{arc_fields_at, vertex_fields_at}

-- a reader that stops because another one stopped
pub stops : {X Y : Type 0} (first : Option (Found X)) (all : Option (Found Y)) (p : Panic) (left later : List ℕ) → IsFoundBy first (Err p) left → (first ≡ None → all ≡ None) → IsFoundBy all (Err p) later
stops first all p left later h f = grind (arith)

-- what is not passed is refused as `Syntax`
pub passing_stopped : (after : Option (List ℕ)) (p : Panic) (left : List ℕ) → IsPassedBy after (Err p) left → (p ≡ Syntax) × (after ≡ None)
passing_stopped after p left h = grind (arith)

-- one finding after another
given-given : {X Y W : Type 0} (o : Option X) (f : X → Option Y) (g : Y → Option W) → given (given o f) g ≡ given o (λ x. given (f x) g)
given-given o f g = grind (arith)

given-mapped : {X Y W : Type 0} (o : Option X) (f : X → Y) (g : Y → Option W) → given (option_map f o) g ≡ given o (λ x. g (f x))
given-mapped o f g = grind (arith)

-- the first of the fields that are left, and then the others
pub first_field : (counts : Counts) (kind : Kind) (kinds : List Kind) (text : List ℕ)
    → more_fields_at counts (kind ∷ kinds) text ≡ given (next_field_at counts kind text) (λ field. found_as (λ fields. field.value ∷ fields) (more_fields_at counts kinds field.rest))
unfolding more_fields_at
first_field counts kind kinds text = grind (arith)

-- no more fields: the record ends
last_field : (counts : Counts) (text : List ℕ) → more_fields_at counts [] text ≡ option_map (λ rest. record { value = []; rest = rest }) (after_prefix (codes "\n") text)
unfolding more_fields_at
last_field counts text = refl

-- the record of a vertex, and that of an arc, field by field
pub vertex_steps : (head : Head) (text : List ℕ) → vertex_record_at head text ≡ vertex_fields_at head text
vertex_steps head text = simp (first_field, given-given, given-mapped)

pub arc_steps : (head : Head) (a b : Kind) (text : List ℕ) → arc_kinds head.kinds ≡ a ∷ b ∷ [] → arc_record_at head text ≡ arc_fields_at head.counts a b text
arc_steps head a b text e = simp (e, first_field, last_field, given-given, given-mapped)

-- the fields so far, of those that end a record
abbrev with_first : List Util → Option (Found (List Util)) → Option (Found (List Util))
with_first first found = found_as (λ fields. first ++ fields) found

first_again : (first : List Util) (u : Util) (found : Option (Found (List Util))) → with_first first (found_as (λ fields. u ∷ fields) found) ≡ with_first (first ++ u ∷ []) found
first_again first u None = refl
first_again first u (Some x) = ap (λ (fields : List Util). Some (record { value = fields; rest = x.rest })) (sym (append_assoc first (u ∷ []) x.value))

this_field : (counts : Counts) (kinds : List Kind) (i : ℕ) (kind d : Kind) (text : List ℕ) → i < length kinds → kind ≡ get_or kinds i d
    → more_fields_at counts (drop i kinds) text ≡ given (next_field_at counts kind text) (λ field. found_as (λ fields. field.value ∷ fields) (more_fields_at counts (drop (i + 1) kinds) field.rest))
this_field counts kinds i kind d text h e = rw (e, drop-cons kinds i d h, add-one) (first_field _ _ _ _)

-- a field that is used stands after a comma
pub used_at : (counts : Counts) (kind : Kind) (text : List ℕ) → is_used kind ≡ true → next_at (field_at counts kind) text ≡ next_field_at counts kind text
used_at counts kind text e = rw e refl

-- an integer after a comma is a field of its kind
pub int_stops : (counts : Counts) (kind : Kind) (text left : List ℕ) (e : Panic) → kind ≡ I → IsFoundBy (next_at (plain_at integer_of) text) (Err e) left
    → IsFoundBy {X = Util} (next_field_at counts kind text) (Err e) left
int_stops counts kind text left e is h = grind (arith, stops, given, found_as)

pub int_read : (counts : Counts) (kind : Kind) (text left : List ℕ) (i n : ℤ) → i ≡ n → kind ≡ I → next_at (plain_at integer_of) text ≡ Some (record { value = n; rest = left })
    → next_field_at counts kind text ≡ Some (record { value = Int i; rest = left })
int_read counts kind text left i n same is e = grind (arith, given, found_as)

-- of the six fields that end a record those before this place are read, and this text is left; the others are not used yet
pub record AreReadTo (counts : Counts) (kinds : List Kind) (whole : Option (Found (List Util))) (place : ℕ) (fields : List Util) (text : List ℕ) : Type 0 where
  so_far : whole ≡ with_first (take place fields) (more_fields_at counts (drop place kinds) text)
  blank : (k : ℕ) → place ≤ k → get_or fields k Nothing ≡ Nothing

pub none_read : (counts : Counts) (kinds : List Kind) (text : List ℕ) → AreReadTo counts kinds (more_fields_at counts kinds text) 0 (Nothing ∷ Nothing ∷ Nothing ∷ Nothing ∷ Nothing ∷ Nothing ∷ []) text
none_read counts kinds text = grind (arith)

-- the next field is read, or not used, or the reading stops there
pub one_read : (counts : Counts) (kinds : List Kind) (whole : Option (Found (List Util))) (place : ℕ) (fields : List Util) (text left : List ℕ) (kind d : Kind) (u : Util)
    → AreReadTo counts kinds whole place fields text → length kinds ≡ 6 → length fields ≡ 6 → place < 6 → kind ≡ get_or kinds place d
    → next_field_at counts kind text ≡ Some (record { value = u; rest = left }) → AreReadTo counts kinds whole (place + 1) (set fields place u) left
one_read counts kinds whole place fields text left kind d u h all six within is p = record {
  so_far = h.so_far ∙ rw (this_field counts kinds place kind d text (omega (arith, all, within)) is, p, take_more_set fields place u (omega (arith, six, within)))
      (first_again (take place fields) u (more_fields_at counts (drop (place + 1) kinds) left));
  blank = λ k from. get_or-set_other fields place k u Nothing (omega (arith, from)) ∙ h.blank k (omega (arith, from));
}

pub one_unused : (counts : Counts) (kinds : List Kind) (whole : Option (Found (List Util))) (place : ℕ) (fields : List Util) (text : List ℕ) (kind d : Kind)
    → AreReadTo counts kinds whole place fields text → length kinds ≡ 6 → length fields ≡ 6 → place < 6 → kind ≡ get_or kinds place d → is_used kind ≡ false
    → AreReadTo counts kinds whole (place + 1) fields text
one_unused counts kinds whole place fields text kind d h all six within is unused =
    rw (sym (set-get_or fields place Nothing), h.blank place (omega arith)) (one_read counts kinds whole place fields text text kind d Nothing h all six within is (rw unused refl))

pub one_stops : (counts : Counts) (kinds : List Kind) (whole : Option (Found (List Util))) (place : ℕ) (fields : List Util) (text left after : List ℕ) (kind d : Kind) (e : Panic)
    → AreReadTo counts kinds whole place fields text → length kinds ≡ 6 → place < 6 → kind ≡ get_or kinds place d → IsFoundBy (next_field_at counts kind text) (Err e) left
    → IsFoundBy whole (Err e) after
one_stops counts kinds whole place fields text left after kind d e h all within is p =
    stops (next_field_at counts kind text) whole e left after p (λ none. h.so_far ∙ rw (this_field counts kinds place kind d text (omega (arith, all, within)) is, none) refl)

at_end : (counts : Counts) (kinds : List Kind) (whole : Option (Found (List Util))) (place : ℕ) (fields : List Util) (text : List ℕ)
    → AreReadTo counts kinds whole place fields text → length kinds ≡ 6 → length fields ≡ 6 → 6 ≤ place
    → whole ≡ option_map (λ rest. record { value = fields; rest = rest }) (after_prefix (codes "\n") text)
at_end counts kinds whole place fields text h all six past =
    h.so_far ∙ rw (take_all place fields (omega (arith, six, past)), drop_all place kinds (omega (arith, all, past)), last_field) (grind (arith, append-nil))

pub end_stops : (counts : Counts) (kinds : List Kind) (whole : Option (Found (List Util))) (place : ℕ) (fields : List Util) (text left after : List ℕ) (e : Panic)
    → AreReadTo counts kinds whole place fields text → length kinds ≡ 6 → length fields ≡ 6 → 6 ≤ place
    → IsPassedBy (after_prefix (codes "\n") text) (Err e) left → IsFoundBy whole (Err e) after
end_stops counts kinds whole place fields text left after e h all six past p =
    let end = at_end counts kinds whole place fields text h all six past in grind (arith, end)

pub end_read : (counts : Counts) (kinds : List Kind) (whole : Option (Found (List Util))) (place : ℕ) (fields : List Util) (text left : List ℕ)
    → AreReadTo counts kinds whole place fields text → length kinds ≡ 6 → length fields ≡ 6 → 6 ≤ place → after_prefix (codes "\n") text ≡ Some left
    → whole ≡ Some (record { value = fields; rest = left })
end_read counts kinds whole place fields text left h all six past p = at_end counts kinds whole place fields text h all six past ∙ rw p refl

-- the kinds of an arc's fields, of fourteen
pub two_kinds : (kinds : List Kind) (d : Kind) → length kinds ≡ 14 → arc_kinds kinds ≡ get_or kinds 6 d ∷ get_or kinds 7 d ∷ []
two_kinds kinds d h = grind (arith)

-- the graph's record, of what is found one after another
pub graph_found : (head : Head) (text r1 r2 r3 r4 r5 left : List ℕ) (id : List ℕ) (n m : ℕ) (util : List Util) (g : GraphData)
    → string_at most_id_bytes text ≡ Some (record { value = id; rest = r1 }) → after_comma r1 ≡ Some r2
    → plain_at (number_of most_number_digits) r2 ≡ Some (record { value = n; rest = r3 }) → after_comma r3 ≡ Some r4
    → plain_at (number_of most_number_digits) r4 ≡ Some (record { value = m; rest = r5 })
    → more_fields_at head.counts (graph_kinds head.kinds) r5 ≡ Some (record { value = util; rest = left })
    → n ≡ head.counts.vertices → g ≡ graph_data id m head.kinds util [] []
    → graph_record_at head text ≡ Some (record { value = g; rest = left })
graph_found head text r1 r2 r3 r4 r5 left id n m util g a b c d e f same made = grind (arith, nat_tests)
