-- The graph that is described: it is one, and the only one.
use Rattle.sgb_vec.proofs.Common.{rules, ◌≡◌, ◌≢◌, ◌+◌, ◌<◌, ◌≤◌, ℕ, zero, suc, min, max, Bool, true, List, [], ◌∷◌, length, get_or, map, zip, drop, Option, Some, None, refl, ap, sym, ◌∙◌, arith, slice_get, All, AllPairs, Contains, enumerate_from, flat_map, eq-eqb, ne_eqb, cases_eq, All-nil, All-cons, All-contains, All-head, All-tail, All-map, length-map, length-enumerate_from, slice_get_within, get_or_from_slice_get}
use Rattle.sgb_vec.proofs.Lists.{All-flat_map, Contains-cases, Contains-first, Contains-none, Contains-other}
use Rattle.sgb_graph.specs.Graphs.{GraphData, HasNoFields, arc_record, ends_from, ends_of, link_of, vertex_of}
use Rattle.sgb_graph.specs.inner.Chains.{links_of}
use Rattle.sgb_graph.specs.Events.{Event, HasEndsBelow, Record, all_records, list_of, records_of}
use Rattle.sgb_graph.specs.Descriptions.{Description, IsGraphOf}
use Rattle.sgb_graph.specs.Made.{first_number, graph_described, number_after}
use Rattle.sgb_graph.specs.Growth.{link}
use Rattle.sgb_graph.specs.declared.fields.Ref.TheVariants.{At}
use Rattle.sgb_graph.specs.declared.fields.Util.{Util}
use Rattle.sgb_graph.specs.declared.fields.Vertex.{Vertex}
use Rattle.sgb_graph.specs.declared.fields.ArcRec.{ArcRec}
use Rattle.sgb_graph.specs.declared.fields.Link.{Link}
use Rattle.sgb_graph.proofs.AddingArcs.{element_at}
use Rattle.sgb_graph.proofs.Chains.{ends_none, ends_step, links_of_none, links_step, links_within, numbers_none, step_of}
use Rattle.sgb_graph.proofs.EventLemmas.{record_from}
use Rattle.sgb_graph.proofs.Growing.{chain_at, end_at}
use Rattle.sgb_graph.proofs.ListMembers.{AreApart, apart_on_list, each_on_list, only_on_list, short_list}
use Rattle.std.proofs.lemmas.Slice.Zip.{firsts-zip, seconds-zip}

-- a list that ends begins with its first record
first_is : (records : List ArcRec) (first : Option ℕ) → ends_of records first ≡ true → first_number (links_of records first) ≡ first
first_is records None ends = ap first_number (links_of_none records)
first_is records (Some k) ends = ap first_number (step_of records k ends).links

-- and after each record on it stands the one that comes next
after_is : (links : List Link) (records : List ArcRec) (first : Option ℕ) (l : Link) (r : ArcRec) → ends_of records first ≡ true → links_of records first ≡ links → Contains links l → slice_get records l.number ≡ Some r → number_after l.number links ≡ r.next
after_is [] records first l r ends e has is = absurd (Contains-none l has)
after_is (a ∷ links) records None l r ends e has is = let none = sym (links_of_none records) ∙ e in absurd cc
after_is (a ∷ links) records (Some k) l r ends e has is =
    let step = step_of records k ends in
    let rest : links ≡ links_of records step.here.next = ap (drop 1) (sym e ∙ step.links) in
    let number : Some a.number ≡ Some k = ap first_number (sym e ∙ step.links) in
    let later = after_is links records step.here.next l r step.ends (sym rest) in
    grind (arith, cases_eq, eq-eqb, ne_eqb, Contains-cases, first_is, step, rest, number, later)

-- the vertex with this name and these fields, whose list of arcs is the one given
abbrev vertex_with : List ℕ → List Util → List Link → Vertex
vertex_with text fields links = record { name = text; arcs = first_number links; util = fields }

-- record number k, which says what the row says and stands in the list given
abbrev record_in : List Link → ℕ → Record → ArcRec
record_in links k row = arc_record row.tip (number_after k links) row.len

-- vertices by their names, fields and first records
vertices_are : (lists : ℕ → List Link) (k : ℕ) (vertices : List Vertex) → ((i : ℕ) (x : Vertex) → slice_get vertices i ≡ Some x → x.arcs ≡ first_number (lists (k + i)))
    → vertices ≡ map (λ p. vertex_with p.1.0 p.1.1 (lists p.0)) (enumerate_from k (zip (map (λ v. v.name) vertices) (map (λ v. v.util) vertices)))
vertices_are lists k [] firsts = refl
vertices_are lists k (x ∷ vertices) firsts =
    let own = firsts 0 x refl in
    grind (arith, vertex_with, own, vertices_are lists (k + 1) vertices (λ i y is. let after : k + suc i ≡ k + 1 + i = omega arith in firsts (suc i) y is ∙ ap (λ j. first_number (lists j)) after))

-- records by theirs
records_are : (lists : ℕ → List Link) (k : ℕ) (records : List ArcRec) (wanted : List Record) → map (λ r. r.tip) records ≡ map (λ r. At r.tip) wanted → map (λ r. r.len) records ≡ map (λ r. r.len) wanted → All HasNoFields records
    → ((i : ℕ) (r : ArcRec) (a : Record) → slice_get records i ≡ Some r → slice_get wanted i ≡ Some a → r.next ≡ number_after (k + i) (lists a.start))
    → records ≡ map (λ p. record_in (lists p.1.start) p.0 p.1) (enumerate_from k wanted)
records_are lists k [] [] tips lengths none nexts = refl
records_are lists k (r ∷ records) (a ∷ wanted) tips lengths none nexts =
    let next : r.next ≡ number_after k (lists a.start) = nexts 0 r a refl refl ∙ ap (λ (j : ℕ). number_after j (lists a.start)) (omega arith) in
    let plain = All-head HasNoFields r records none in
    let tip : r.tip ≡ At a.tip = cc in
    let len : r.len ≡ a.len = cc in
    let own : r ≡ record_in (lists a.start) k a = search (rules, tip, next, len, plain) in
    let later = records_are lists (k + 1) records wanted (ap (drop 1) tips) (ap (drop 1) lengths) (All-tail HasNoFields r records none)
    (λ i s b is at. let after : k + suc i ≡ k + 1 + i = omega arith in nexts (suc i) s b is at ∙ ap (λ j. number_after j (lists b.start)) after) in
    cc
records_are lists k _ _ tips lengths none nexts = absurd cc

-- an event within the vertices has its records there
pub records_within : (n : ℕ) (directed : Bool) (e : Event) → HasEndsBelow n e → All (λ r. r.start < n) (records_of directed e)
records_within n directed e within = grind (arith, All-cons, record_from, All-nil, min, max)

-- so have all
all_records_within : (n : ℕ) (directed : Bool) (events : List Event) → All (HasEndsBelow n) events → All (λ r. r.start < n) (all_records directed events)
all_records_within n directed events within =
    All-flat_map (λ (r : Record). r.start < n) (records_of directed) events (λ k e inside. records_within n directed (get_or events k e) (within k e inside))

-- a graph that is described is the one that the description makes
pub described_only : (d : Description) (g : GraphData) → IsGraphOf d g → g ≡ graph_described d
described_only d g h =
    let wanted = all_records d.directed d.events in
    let lists : ℕ → List Link = λ v. list_of d.directed d.events v in
    let chain_is : (v : ℕ) (x : Vertex) → slice_get g.vertices v ≡ Some x → links_of g.records x.arcs ≡ lists v = λ v x is. sym (chain_at g v x is) ∙ h.arcs.lists v (slice_get_within g.vertices v x is) in
    let chain_ends : (v : ℕ) (x : Vertex) → slice_get g.vertices v ≡ Some x → ends_of g.records x.arcs ≡ true = λ v x is. end_at g v x h.arcs.ends is in
    let first_at : (i : ℕ) (x : Vertex) → slice_get g.vertices i ≡ Some x → x.arcs ≡ first_number (lists (0 + i)) = λ i x is.
    sym (first_is g.records x.arcs (chain_ends i x is)) ∙ ap first_number (chain_is i x is) ∙ ap (λ (j : ℕ). first_number (lists j)) (omega arith) in
    let vertices : g.vertices ≡ (graph_described d).vertices = vertices_are lists 0 g.vertices first_at
    ∙ ap (λ ns. map (λ p. vertex_with p.1.0 p.1.1 (lists p.0)) (enumerate_from 0 (zip ns (map (λ v. v.util) g.vertices)))) h.names
    ∙ ap (λ fs. map (λ p. vertex_with p.1.0 p.1.1 (lists p.0)) (enumerate_from 0 (zip d.names fs))) h.fields in
    let next_at : (i : ℕ) (r : ArcRec) (a : Record) → slice_get g.records i ≡ Some r → slice_get wanted i ≡ Some a → r.next ≡ number_after (0 + i) (lists a.start) = λ i r a is at.
    let below : a.start < length g.vertices = rw (get_or_from_slice_get wanted i a a at) at (all_records_within (length g.vertices) d.directed d.events h.arcs.within i a (slice_get_within wanted i a at)) in
    let x = element_at g.vertices a.start below in
    sym (after_is (lists a.start) g.records x.element.arcs (link i a.tip a.len) r (chain_ends a.start x.element x.is) (chain_is a.start x.element x.is) (each_on_list d.directed d.events i a at) is)
    ∙ ap (λ (j : ℕ). number_after j (lists a.start)) (omega arith) in
    let records : g.records ≡ (graph_described d).records = records_are lists 0 g.records wanted h.arcs.tips h.arcs.lengths h.arc_fields next_at in
    rw (← h.id, ← h.arcs.count, ← h.kinds, ← h.util, ← vertices, ← records) refl

-- what is read of the things that are made of elements with their numbers
read_parts : {A X Y : Type 0} (part : X → Y) (make : ℕ × A → X) (said : A → Y) (k : ℕ) (xs : List A) → ((k : ℕ) (a : A) → part (make (k, a)) ≡ said a) → map part (map make (enumerate_from k xs)) ≡ map said xs
read_parts part make said k [] same = refl
read_parts part make said k (a ∷ xs) same = grind (arith, same, read_parts part make said (k + 1) xs same)

-- as the graph has them
pub described_names : (d : Description) → length d.fields ≡ length d.names → map (λ v. v.name) (graph_described d).vertices ≡ d.names
described_names d same = read_parts (λ v. v.name) _ (λ q. q.0) 0 (zip d.names d.fields) (λ k q. refl) ∙ firsts-zip d.names d.fields same

-- each has the first record of its list
firsts_are : (lists : ℕ → List Link) (k : ℕ) (names : List (List ℕ)) (fields : List (List Util)) (i : ℕ) (x : Vertex) → slice_get (map (λ p. vertex_with p.1.0 p.1.1 (lists p.0)) (enumerate_from k (zip names fields))) i ≡ Some x → x.arcs ≡ first_number (lists (k + i))
firsts_are lists k (name ∷ names) (field ∷ fields) zero x is = grind (arith, vertex_with)
firsts_are lists k (name ∷ names) (field ∷ fields) (suc i) x is = grind (arith, firsts_are lists (k + 1) names fields i x is)
firsts_are lists k _ _ i x is = absurd cc

record_fields : (lists : ℕ → List Link) (k : ℕ) (wanted : List Record) → All HasNoFields (map (λ p. record_in (lists p.1.start) p.0 p.1) (enumerate_from k wanted))
record_fields lists k wanted = All-map HasNoFields (λ p. record_in (lists p.1.start) p.0 p.1) (enumerate_from k wanted) (λ i d h. (refl, refl))

record_at : (lists : ℕ → List Link) (k : ℕ) (wanted : List Record) (i : ℕ) (a : Record) → slice_get wanted i ≡ Some a → slice_get (map (λ p. record_in (lists p.1.start) p.0 p.1) (enumerate_from k wanted)) i ≡ Some (record_in (lists a.start) (k + i) a)
record_at lists k [] i a is = absurd cc
record_at lists k (b ∷ wanted) zero a is = grind (arith, record_in)
record_at lists k (b ∷ wanted) (suc i) a is = grind (arith, record_at lists (k + 1) wanted i a is)

-- the record of an arc that stands in a list
record StandsIn (records : List ArcRec) (links : List Link) (l : Link) : Type 0 where
  here : ArcRec
  is : slice_get records l.number ≡ Some here
  tip : vertex_of here.tip ≡ l.tip
  len : here.len ≡ l.len
  next : here.next ≡ number_after l.number links

-- where each arc of a list does, and no two have the same number, the way is that list
record IsWay (fuel : ℕ) (records : List ArcRec) (links : List Link) : Type 0 where
  ends : ends_from fuel records (first_number links) ≡ true
  arcs : links_within fuel records (first_number links) ≡ links

way_is : (fuel : ℕ) (records : List ArcRec) (links : List Link) → length links ≤ fuel → AllPairs AreApart links → ((l : Link) → Contains links l → StandsIn records links l) → IsWay fuel records links
way_is fuel records [] short apart stand = record { ends = ends_none fuel records; arcs = ap (flat_map (link_of records)) (numbers_none fuel records) }
way_is zero records (l ∷ links) short apart stand = absurd (omega arith)
way_is (suc fuel) records (l ∷ links) short apart stand =
    let first = stand l (Contains-first l links) in
    let next : first.here.next ≡ first_number links = first.next ∙ rw (eq-eqb l.number l.number refl) refl in
    let later : (m : Link) → Contains links m → StandsIn records links m = λ m has.
    let other : l.number ≢ m.number = All-contains (AreApart l) links m (λ k d below. apart 0 (suc k) d (omega arith) (omega arith)) has in
    let stands = stand m (Contains-other l m links has) in
    record { here = stands.here; is = stands.is; tip = stands.tip; len = stands.len; next = stands.next ∙ rw (ne_eqb l.number m.number other) refl } in
    let rest = way_is fuel records links (omega arith) (λ i j d less below. apart (suc i) (suc j) d (omega arith) (omega arith)) later in
    grind (arith, ends_step, links_step, first, next, rest)

-- the graph that a description makes is described
pub described_is : (d : Description) → All (HasEndsBelow (length d.names)) d.events → length d.fields ≡ length d.names → IsGraphOf d (graph_described d)
described_is d within same =
    let wanted = all_records d.directed d.events in
    let records = (graph_described d).records in
    let lists : ℕ → List Link = λ v. list_of d.directed d.events v in
    let size : length (graph_described d).vertices ≡ length d.names = sym (length-map (graph_described d).vertices (λ v. v.name)) ∙ ap length (described_names d same) in
    let first_at : (v : ℕ) (x : Vertex) → slice_get (graph_described d).vertices v ≡ Some x → x.arcs ≡ first_number (lists v) = λ v x is.
    firsts_are lists 0 d.names d.fields v x is ∙ ap (λ (j : ℕ). first_number (lists j)) (omega arith) in
    let stands : (v : ℕ) (l : Link) → Contains (lists v) l → StandsIn records (lists v) l = λ v l has. record {
      here = record_in (lists v) (0 + l.number) (record_from v l.tip l.len);
      is = record_at lists 0 wanted l.number (record_from v l.tip l.len) (only_on_list d.directed d.events v l has);
      tip = refl;
      len = refl;
      next = ap (λ (j : ℕ). number_after j (lists v)) (omega arith);
    } in
    let many : length records ≡ length wanted = length-map (enumerate_from 0 wanted) (λ p. record_in (lists p.1.start) p.0 p.1) ∙ length-enumerate_from 0 wanted in
    let way : (v : ℕ) → IsWay (length records) records (lists v) = λ v.
    way_is (length records) records (lists v) (omega (arith, many, short_list d.directed d.events v)) (apart_on_list d.directed d.events v) (stands v) in
    record {
      id = refl;
      kinds = refl;
      util = refl;
      names = described_names d same;
      fields = read_parts (λ v. v.util) _ (λ q. q.1) 0 (zip d.names d.fields) (λ k q. refl) ∙ seconds-zip d.names d.fields same;
      arcs = record {
        count = refl;
        tips = read_parts (λ r. r.tip) _ (λ r. At r.tip) 0 wanted (λ k a. refl);
        lengths = read_parts (λ r. r.len) _ (λ r. r.len) 0 wanted (λ k a. refl);
        lists = λ v below. let x = element_at (graph_described d).vertices v below in chain_at (graph_described d) v x.element x.is ∙ ap (links_of records) (first_at v x.element x.is) ∙ (way v).arcs;
        within = rw size within;
        ends = λ v x below. let y = element_at (graph_described d).vertices v below in
            rw (get_or_from_slice_get (graph_described d).vertices v y.element x y.is) (ap (ends_of records) (first_at v y.element y.is) ∙ (way v).ends);
      };
      arc_fields = record_fields lists 0 wanted;
    }
