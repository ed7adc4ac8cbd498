-- Events whose ends have different sums: no two of them have the same ends.
use Rattle.sgb_vec.proofs.Common.{◌≡◌, ◌≢◌, ◌<◌, ◌+◌, ◌++◌, ◌∷◌, [], ◌∙◌, ℕ, List, length, take, get_or, sym, ap, take_more, All, AllPairs, All-nil, All-cons, All-append}
use Rattle.std.proofs.lemmas.List.Quantifiers.{all_pairs_push}
use Rattle.sgb_graph.specs.Events.{Event}

-- none has this sum
abbrev pub HaveOtherSums : ℕ → List Event → Type 0
HaveOtherSums sum events = All (λ e. e.from + e.to ≢ sum) events

-- no two have the same
abbrev pub HaveOwnSums : List Event → Type 0
HaveOwnSums events = AllPairs (λ e f. e.from + e.to ≢ f.from + f.to) events

module _ (events : List Event) (i : ℕ) (e : Event) (below : i < length events) (is : e ≡ get_or events i e) where
  next : take (i + 1) events ≡ take i events ++ e ∷ []
  next = take_more events i e below ∙ ap (λ x. take i events ++ x ∷ []) (sym is)

  -- one more event
  pub other_more : (sum : ℕ) → HaveOtherSums sum (take i events) → e.from + e.to ≢ sum → HaveOtherSums sum (take (i + 1) events)
  other_more sum before other =
      rw next (All-append (λ f. f.from + f.to ≢ sum) (take i events) (e ∷ []) before (All-cons (λ f. f.from + f.to ≢ sum) e [] other (All-nil (λ f. f.from + f.to ≢ sum))))

  pub own_more : (sum : ℕ) → HaveOwnSums (take i events) → HaveOtherSums sum (take i events) → sum ≡ e.from + e.to → HaveOwnSums (take (i + 1) events)
  own_more sum before other same =
      rw next (all_pairs_push (λ f g. f.from + f.to ≢ g.from + g.to) (take i events) e before (λ k d h alike. other k d h (alike ∙ sym same)))
