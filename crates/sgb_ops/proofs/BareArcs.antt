-- Arcs as far as their tips and lengths go.
use Rattle.sgb_vec.proofs.Common.{◌≡◌, ◌∙◌, ◌<◌, ◌==◌, ℕ, ℤ, min, int_max, Bool, true, false, List, [], ◌∷◌, ◌++◌, map, filter, length, refl, sym, ap, ap₂, arith, All, nat_lt, if◌then◌else◌, lt-ltb, map-append, length-map, length-filter, All-map}
use Rattle.sgb_vec.proofs.Lists.{filter-all}
use Rattle.sgb_graph.specs.Events.{Event}
use Rattle.sgb_graph.specs.Graphs.{GraphData}
use Rattle.sgb_graph.specs.declared.fields.Link.{Link}
use Rattle.sgb_ops.specs.Intersection.{common_count, common_events, common_length, count_to, least_to}
use Rattle.sgb_ops.specs.Lengths.{least_of}
use Rattle.sgb_taken.specs.Taken.{taken}
use Rattle.sgb_ops.specs.inner.Ends.{event_of}
use Rattle.sgb_ops.specs.inner.Intersection.{common_event}
use Rattle.sgb_taken.specs.inner.Ends.{link_of}
use Rattle.sgb_ops.specs.inner.Sources.{HasTips, bare}
use Rattle.sgb_ops.proofs.CommonEvents.{commons_after, commons_at_places}
use Rattle.sgb_taken.proofs.TakenTips.{TipBelow}
use Rattle.sgb_ops.proofs.ListedEvents.{listed_tips}

-- no more is taken from them
pub bare_twice : (links : List Link) → map bare (map bare links) ≡ map bare links
bare_twice [] = refl
bare_twice (l ∷ links) = ap (λ ls. bare l ∷ ls) (bare_twice links)

-- those of events
links_of : (v : ℕ) (links : List Link) → map link_of (map (event_of v) links) ≡ map bare links
links_of v [] = refl
links_of v (l ∷ links) = ap (λ ls. bare l ∷ ls) (links_of v links)

ends_of : (v : ℕ) (links : List Link) → map (λ e. e.to) (map (event_of v) links) ≡ map (λ l. l.tip) links
ends_of v [] = refl
ends_of v (l ∷ links) = ap (λ ts. l.tip ∷ ts) (ends_of v links)

-- where the tips of all arcs that are taken are vertices, their events are put where those to vertices are
pub events_put : (directed : Bool) (g : GraphData) (v n : ℕ) (none events : List Event) → HasTips g → v < length g.vertices → n ≡ length g.vertices
    → none ≡ [] → events ≡ none ++ map (event_of v) (filter (λ l. nat_lt l.tip n) (taken directed g v)) → events ≡ map (event_of v) (taken directed g v)
events_put directed g v n none events tips below few cleared put =
    put
    ∙ (ap (λ es. es ++ map (event_of v) (filter (λ l. nat_lt l.tip n) (taken directed g v))) cleared
    ∙ ap (map (event_of v)) (filter-all (λ l. nat_lt l.tip n) (taken directed g v) (λ k d h. lt-ltb _ _ (omega (arith, few, listed_tips directed g v tips below k d h)))))

-- so the arcs that are read from these
pub arcs_read : (v : ℕ) (links : List Link) (events handed : List Event) (empty arcs : List Link)
    → events ≡ map (event_of v) links → handed ≡ events → empty ≡ [] → arcs ≡ empty ++ map link_of handed → arcs ≡ map bare links
arcs_read v links events handed empty arcs put same clear read = rw (read, clear, same, put) (links_of v links)

-- and their tips
pub tips_read : (v : ℕ) (links : List Link) (events handed : List Event) (empty tips : List ℕ)
    → events ≡ map (event_of v) links → handed ≡ events → empty ≡ [] → tips ≡ empty ++ map (λ e. e.to) handed → tips ≡ map (λ l. l.tip) links
tips_read v links events handed empty tips put same clear read = rw (read, clear, same, put) (ends_of v links)

-- their tips are below what those of the arcs are
pub bare_tips : (n : ℕ) (links : List Link) → All (TipBelow n) links → All (TipBelow n) (map bare links)
bare_tips n links all = All-map (TipBelow n) bare links all

lengths_bare : (u : ℕ) (links : List Link) → map (λ l. l.len) (filter (λ l. l.tip == u) (map bare links)) ≡ map (λ l. l.len) (filter (λ l. l.tip == u) links)
lengths_bare u [] = refl
lengths_bare u (l ∷ links) = grind (arith, lengths_bare u links)

-- as many lead to u as there are lengths of those
count_is : (u : ℕ) (links : List Link) → count_to u links ≡ length (map (λ l. l.len) (filter (λ l. l.tip == u) links))
count_is u links =
    sym (length-map (filter (λ (l : Link). l.tip == u) links) (λ (l : Link). l.len) ∙ length-filter (λ (l : Link). l.tip == u) links)

count_bare : (u : ℕ) (links : List Link) → count_to u (map bare links) ≡ count_to u links
count_bare u links = count_is u (map bare links) ∙ (ap length (lengths_bare u links) ∙ sym (count_is u links))

least_bare : (u : ℕ) (links : List Link) → least_to u (map bare links) ≡ least_to u links
least_bare u links = ap least_of (lengths_bare u links)

counts_bare : (multi : Bool) (u : ℕ) (gs hs : List Link) → common_count multi u (map bare gs) (map bare hs) ≡ common_count multi u gs hs
counts_bare true u gs hs = ap₂ min (count_bare u gs) (count_bare u hs)
counts_bare false u gs hs = ap (min 1) (ap₂ min (count_bare u gs) (count_bare u hs))

length_bare : (multi : Bool) (gs hs : List Link) (l : Link) → common_length multi (map bare gs) (map bare hs) (bare l) ≡ common_length multi gs hs l
length_bare true gs hs l = ap (λ k. int_max k l.len) (least_bare l.tip gs)
length_bare false gs hs l = ap₂ int_max (least_bare l.tip gs) (least_bare l.tip hs)

-- the event where fewer were met than are wanted
abbrev event_when : ℕ → ℕ → ℤ → ℕ → ℕ → List Event
event_when v u len met wanted = if nat_lt met wanted then record { from = v; to = u; len = len } ∷ [] else []

event_bare : (multi : Bool) (v : ℕ) (gs hs before : List Link) (l : Link)
    → common_event multi v (map bare gs) (map bare hs) (map bare before) (bare l) ≡ common_event multi v gs hs before l
event_bare multi v gs hs before l =
    ap₂ (λ k met. event_when v l.tip k met (common_count multi l.tip (map bare gs) (map bare hs))) (length_bare multi gs hs l) (count_bare l.tip before)
    ∙ ap (event_when v l.tip (common_length multi gs hs l) (count_to l.tip before)) (counts_bare multi l.tip gs hs)

after_bare : (multi : Bool) (v : ℕ) (gs hs before links : List Link)
    → commons_after multi v (map bare gs) (map bare hs) (map bare before) (map bare links) ≡ commons_after multi v gs hs before links
after_bare multi v gs hs before [] = refl
after_bare multi v gs hs before (l ∷ links) =
    ap₂ (λ es fs. es ++ fs) (event_bare multi v gs hs before l)
    (ap (λ bs. commons_after multi v (map bare gs) (map bare hs) bs (map bare links)) (sym (map-append bare before (l ∷ []))) ∙ after_bare multi v gs hs (before ++ l ∷ []) links)

events_bare : (multi : Bool) (v : ℕ) (gs hs : List Link) → common_events multi v (map bare gs) (map bare hs) ≡ common_events multi v gs hs
events_bare multi v gs hs =
    commons_at_places multi v (map bare gs) (map bare hs) [] (map bare hs) 0 refl refl
    ∙ (after_bare multi v gs hs [] hs ∙ sym (commons_at_places multi v gs hs [] hs 0 refl refl))

-- the common arcs depend on nothing else
pub same_commons : (multi : Bool) (v : ℕ) (gs gs' hs hs' : List Link) → map bare gs ≡ map bare gs' → map bare hs ≡ map bare hs'
    → common_events multi v gs hs ≡ common_events multi v gs' hs'
same_commons multi v gs gs' hs hs' first second =
    sym (events_bare multi v gs hs) ∙ (ap₂ (common_events multi v) first second ∙ events_bare multi v gs' hs')
