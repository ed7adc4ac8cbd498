-- What is told of arcs by their tips and lengths alone: the events from copies, and whether one is a loop.
use Rattle.sgb_vec.proofs.Common.{◌≡◌, ◌∙◌, ◌<◌, ◌==◌, ◌++◌, ◌||◌, ℕ, Bool, List, [], ◌∷◌, map, filter, flat_map, length, refl, sym, ap, subst, list_any, All, All-filter, All-map}
use Rattle.sgb_graph.specs.declared.fields.Link.{Link}
use Rattle.sgb_ops.specs.declared.induced_graphs.entries.Entry.{Entry}
use Rattle.sgb_ops.specs.inner.Copies.{leads_to_copies}
use Rattle.sgb_ops.specs.inner.Induced.{events_of_arc}
use Rattle.sgb_ops.specs.inner.Ends.{event_of}
use Rattle.sgb_ops.specs.inner.Sources.{bare}
use Rattle.sgb_taken.proofs.TakenTips.{TipBelow}
use Rattle.sgb_ops.proofs.WantedEvents.{arcs_to_copies}

loops_bare : (v : ℕ) (links : List Link) → list_any (λ l. l.tip == v) (map bare links) ≡ list_any (λ l. l.tip == v) links
loops_bare v [] = refl
loops_bare v (l ∷ links) = ap (λ b. (l.tip == v) || b) (loops_bare v links)

pub same_loops : (v : ℕ) (read links : List Link) → map bare read ≡ map bare links → list_any (λ l. l.tip == v) read ≡ list_any (λ l. l.tip == v) links
same_loops v read links same = sym (loops_bare v read) ∙ (ap (list_any (λ (l : Link). l.tip == v)) same ∙ loops_bare v links)

module _ (copies : List Entry) (directed : Bool) (v u : ℕ) where
  events_bare : (links : List Link) → flat_map (events_of_arc copies directed v u) (map bare links) ≡ flat_map (events_of_arc copies directed v u) links
  events_bare [] = refl
  events_bare (l ∷ links) = ap (λ es. events_of_arc copies directed v u l ++ es) (events_bare links)

  -- the events of those arcs that lead to copies are those of all
  pub same_events : (kept read links : List Link) → kept ≡ filter (leads_to_copies copies) read → map bare read ≡ map bare links
      → flat_map (events_of_arc copies directed v u) kept ≡ flat_map (events_of_arc copies directed v u) links
  same_events kept read links is same =
      ap (flat_map (events_of_arc copies directed v u)) is
      ∙ (arcs_to_copies copies directed v u read ∙ (sym (events_bare read) ∙ (ap (flat_map (events_of_arc copies directed v u)) same ∙ events_bare links)))

-- the ends of their events are below what their tips are
pub ends_below : (n v : ℕ) (links : List Link) → All (TipBelow n) links → All (λ e. e.to < n) (map (event_of v) links)
ends_below n v links all = All-map (λ e. e.to < n) (event_of v) links all

-- and their tips have copies where those of all have
pub kept_tips : (copies : List Entry) (n : ℕ) (kept read : List Link) → kept ≡ filter (leads_to_copies copies) read → length copies ≡ n → All (TipBelow n) read → All (TipBelow (length copies)) kept
kept_tips copies n kept read is count all =
    subst (All (TipBelow (length copies))) (sym is)
    (All-filter (leads_to_copies copies) (TipBelow (length copies)) read (subst (λ k. All (TipBelow k) read) (sym count) all))
