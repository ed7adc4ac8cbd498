-- Where the answer to a request about a family begins.
use Rattle.std.proofs.Common.{rules, ◌≡◌, ◌≢◌, ◌∙◌, [], Err, Ok, inl, inr, ◌+◌, ◌-◌, ◌<◌, ◌≤◌, min, ℕ, suc, List, Bool, true, false, not, length, map, drop, Option, Some, None, option_map, Result, refl, sym, ap, arith}
use Rattle.std.specs.Bool.{OnTrue, OnFalse}
use Rattle.std.specs.List.{Contains, slice_get}
use Rattle.std.specs.Option.{IfNone, IfSome, is_some}
use Rattle.std.proofs.lemmas.Bool.{cases_lt}
use Rattle.std.proofs.lemmas.List.{drop_all, drop_min, length-drop, length-map}
use Rattle.sgb_vec.specs.Lexicographic.{IsRising}
use Rattle.sgb_vec.specs.Names.{name_of_vector}
use Rattle.sgb_graph.specs.Graphs.{GraphData}
use Rattle.sgb_graph.specs.Made.{graph_described}
use Rattle.sgb_gen.specs.VectorGraphs.{VectorGraph, described_by, vertex_among}
use Rattle.sgb_gen.proofs.RisingVectors.{vertex_in_rising}
use Rattle.sgb_graph.specs.Vertices.{names_of}
use Rattle.sgb.specs.Certain.{IsPast}
use Rattle.sgb.specs.Locals.{left_out_after}
use Rattle.sgb.specs.Outcomes.{left_out}
use Rattle.sgb.specs.Texts.{blocks}
use Rattle.sgb.specs.inner.Remaining.{BeginsAfter, IsLastSkipped}
use Rattle.sgb_requests.specs.declared.faults.Fault.{Fault}
use Rattle.sgb_requests.specs.declared.requests.Resume.{Resume}
use Rattle.sgb_requests.specs.declared.requests.Resume.TheVariants as resume
use Rattle.sgb.proofs.Listings.{blocks-none}
use Rattle.sgb_gen.proofs.FamilyWalks.{first_in_drop}
use Rattle.sgb.proofs.LocalListings.{contains_in_drop}
use Rattle.sgb_gen.proofs.VectorVertices.{named_by_vectors, names_count}

-- the answer begins after the last of the first so many members
pub skipped_begins : (members : List (List ℕ)) → IsRising members → (count : ℕ) (start : Option (List ℕ)) → IsLastSkipped members count start
    → BeginsAfter members (resume.Skip count) start
skipped_begins members rising count None none = (tt, (count, refl, none))
skipped_begins members rising count (Some x) (k, there, same) =
    let place : vertex_among members x ≡ k = vertex_in_rising members k x rising there in
    let here : slice_get (drop k members) 0 ≡ Some x = first_in_drop k members ∙ there in
    (contains_in_drop k members x here, (count, refl, same ∙ ap (λ j. drop (suc j) members) (sym place)))

-- the blocks are the same where as many are left
blocks_alike : (g : GraphData) (n j k : ℕ) → length (names_of g) ≡ n → n - j ≡ n - k → blocks g j ≡ blocks g k
blocks_alike g n j k count alike = search (rules, cases_lt, blocks-none)

-- what is left out of the graph's names
pub left_out_of_graph : (g : VectorGraph) (r : Resume) (a : Result ℕ Fault) → left_out (map name_of_vector g.vectors) r ≡ a → a ≡ left_out (names_of (graph_described (described_by g))) r
left_out_of_graph g r a e = sym (ap (λ ns. left_out ns r) (named_by_vectors g) ∙ e)

-- the blocks after the vector where the listing begins are those that are not left out
pub blocks_after : (g : VectorGraph) (k : ℕ) (start after : Option (List ℕ)) → drop k g.vectors ≡ drop (left_out_after g.vectors start) g.vectors → after ≡ start
    → blocks (graph_described (described_by g)) k ≡ blocks (graph_described (described_by g)) (left_out_after g.vectors after)
blocks_after g k start after alike is =
    let count : length (drop k g.vectors) ≡ length (drop (left_out_after g.vectors after) g.vectors) = grind arith in
    grind (arith, blocks_alike, names_count, length-drop)

-- the last of the first so many members, by its place, where there is such a place
pub skipped_last : (members : List (List ℕ)) (count n skipped place : ℕ) (found : Bool) (v : List ℕ) → n ≡ length members → skipped ≡ min count n → 0 < skipped → place + 1 ≡ skipped
    → OnTrue found (slice_get members place ≡ Some v) → OnFalse found (length members ≤ place)
    → (k : ℕ) × (slice_get members k ≡ Some v) × (drop count members ≡ drop (suc k) members)
skipped_last members count n skipped place true v size least some next there none =
    let same : suc place ≡ min count (length members) = omega (arith, least, next, size) in
    (place, there, sym (drop_min count members) ∙ ap (λ k. drop k members) (sym same))
skipped_last members count n skipped place false v size least some next there none = absurd (omega (arith, none, size, least, next))

-- what is found of such a member is among the vectors
pub some_member : {X : Type 0} (r : Option X) (value : X → List ℕ) (start : Option (List ℕ)) (members vectors : List (List ℕ)) → members ≡ vectors
    → option_map value r ≡ start → IfSome start (λ x. Contains members x) → IfSome r (λ x. Contains vectors (value x))
some_member None value start members vectors same alike is = tt
some_member (Some x) value start members vectors same alike is = grind (arith)

-- a listing that is resumed after all vertices has no vector left
pub none_left : (g : VectorGraph) (r : Resume) (k : ℕ) (start after : Option (List ℕ)) → Ok k ≡ left_out (names_of (graph_described (described_by g))) r
    → drop k g.vectors ≡ drop (left_out_after g.vectors start) g.vectors → after ≡ start → IsPast (names_of (graph_described (described_by g))) r
    → (r ≢ resume.Whole) × (drop (left_out_after g.vectors after) g.vectors ≡ [])
none_left g r k start after from alike is (inl nowhere) = absurd (let e = from ∙ nowhere in cc)
none_left g r k start after from alike is (inr (other, (j, place, enough))) =
    let same : k ≡ j = let e = from ∙ place in cc in
    (other, rw is (sym alike ∙ drop_all k g.vectors (omega (arith, same, enough, names_count g))))

-- nothing comes next
pub none_next : {X : Type 0} (P : Type 0) (next : Option X) (none : Bool) → IfNone next P → is_some next ≡ not none → none ≡ true → P
none_next P None none left found is = left
none_next P (Some x) none left found is = absurd (let e = rw is at found in cc)

-- none of these members is left where as many as there are, or more, are left out
module _ (members : List (List ℕ)) (r : Resume) (start : Option (List ℕ)) (begins : BeginsAfter members r start) where
  count : length (map name_of_vector members) ≡ length members
  count = length-map members name_of_vector

  pub past_all : r ≢ resume.Whole → drop (left_out_after members start) members ≡ [] → IsPast (map name_of_vector members) r
  past_all other none =
      let (k, place, alike) = begins.1 in
      inr (other, (k, place, omega (arith, count, length-drop k members, ap length (alike ∙ none))))
