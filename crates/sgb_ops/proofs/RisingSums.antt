-- Events whose ends have rising sums: no two of them have the same ends.
use Rattle.sgb_vec.proofs.Common.{◌<◌, ◌≤◌, ◌+◌, ℕ, List, [], ◌∷◌, ◌++◌, arith, All, AllPairs, All-nil, All-cons, All-append}
use Rattle.std.proofs.lemmas.List.Quantifiers.{all_pairs_push}
use Rattle.sgb_graph.specs.Events.{Event}

-- the sums rise, and are below this one
pub record RiseTo (least : ℕ) (events : List Event) : Type 0 where
  pub below : All (λ e. e.from + e.to < least) events
  pub rise : AllPairs (λ e f. e.from + e.to < f.from + f.to) events

-- one more event
pub rise_more : (least : ℕ) (events : List Event) (e : Event) → RiseTo least events → least ≤ e.from + e.to → RiseTo (e.from + e.to + 1) (events ++ e ∷ [])
rise_more least events e so after = record {
  below = All-append (λ f. f.from + f.to < e.from + e.to + 1) events (e ∷ [])
      (λ k d h. omega (arith, so.below k d h, after))
      (All-cons (λ f. f.from + f.to < e.from + e.to + 1) e [] (omega arith) (All-nil (λ f. f.from + f.to < e.from + e.to + 1)));
  rise = all_pairs_push (λ f g. f.from + f.to < g.from + g.to) events e so.rise (λ k d h. omega (arith, so.below k d h, after));
}
