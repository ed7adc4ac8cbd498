-- Events of which no two have the same ends, and a table of bits that tells so.
use Rattle.sgb_vec.proofs.Common.{◌≡◌, ◌≢◌, ◌<◌, ◌*◌, ◌/◌, ◌%◌, ◌^◌, ℕ, suc, Bool, List, [], ◌∷◌, ◌++◌, length, get_or, set, bit_or, w64, refl, sym, ap, ◌∙◌, inl, inr, arith, length-set, get_or-set_same, get_or-set_other, All, AllPairs, bit_at, cases_eq, All-nil, All-cons, All-append}
use Rattle.std.proofs.lemmas.List.Quantifiers.{all_pairs_push}
use Rattle.std.proofs.lemmas.Nat.Bits.{bit_at_set_same, bit_at_set_other}
use Rattle.sgb_vec.proofs.Lists.{filter-none}
use Rattle.sgb_graph.specs.Events.{Event}
use Rattle.sgb_taken.specs.inner.Ends.{bit_place}
use Rattle.sgb_ops.specs.Merged.{merged, merged_unless}
use Rattle.sgb_ops.specs.inner.Merged.{HaveDifferentEnds}
use Rattle.sgb_ops.proofs.Merging.{apart}
use Rattle.sgb_ops.proofs.MergedParts.{all_stay}

-- they are merged to themselves
merged_same : (directed : Bool) (events : List Event) → AllPairs (apart directed) events → merged directed events ≡ events
unfolding merged
merged_same directed [] pairs = refl
merged_same directed (e ∷ events) pairs =
    let from_e : All (apart directed e) events = λ k d h. pairs 0 (suc k) d (omega arith) (omega (arith, h)) in
    simp (filter-none, all_stay, from_e, merged_same directed events (λ i j d h k. pairs (suc i) (suc j) d (omega (arith, h)) (omega (arith, k))))

pub merged_unless_same : (multi directed : Bool) (events : List Event) → HaveDifferentEnds events → merged_unless multi directed events ≡ events
merged_unless_same multi directed events different = grind (arith, merged_same)

-- the bit at a place of a table, and the table with that bit
abbrev bit_of : List ℕ → ℕ → ℕ
bit_of seen p = bit_at (get_or seen (p / 64) 0) (p % 64)

abbrev with_bit : List ℕ → ℕ → List ℕ
with_bit seen p = set seen (p / 64) (bit_or (get_or seen (p / 64) 0) (1 * 2 ^ (p % 64) % 2 ^ 64))

-- the table has the bits of these events, and they have different ones
pub record SoFar (seen : List ℕ) (events : List Event) : Type 0 where
  pub words : length seen ≡ 256
  pub set : All (λ e. bit_of seen (bit_place e) ≡ 1) events
  pub apart : AllPairs (λ e f. bit_place e ≢ bit_place f) events

module _ (seen : List ℕ) (p : ℕ) (within : p / 64 < length seen) where
  -- the bit is set
  bit_is_set : bit_of (with_bit seen p) p ≡ 1
  bit_is_set = ap (λ n. bit_at n (p % 64)) (get_or-set_same seen (p / 64) _ 0 within) ∙ bit_at_set_same w64 (get_or seen (p / 64) 0) (p % 64) (omega arith)

  -- each other bit stays
  other_stays : (q : ℕ) → q ≢ p → bit_of (with_bit seen p) q ≡ bit_of seen q
  other_stays q other = elim (cases_eq (q / 64) (p / 64)) [
    | inl same ↦ rw (same, get_or-set_same seen (p / 64) _ 0 within) (bit_at_set_other w64 (get_or seen (p / 64) 0) (p % 64) (omega arith) (q % 64) (λ low. other (omega (arith, same, low))))
    | inr differs ↦ rw (get_or-set_other seen (p / 64) (q / 64) _ 0 differs) refl
  ]

  -- so those that were set stay so
  set_stays : (q : ℕ) → bit_of seen q ≡ 1 → bit_of (with_bit seen p) q ≡ 1
  set_stays q is = grind (arith, cases_eq, bit_is_set, other_stays)

-- one more event, whose bit is not set
pub so_far_more : (seen : List ℕ) (events : List Event) (e : Event) → SoFar seen events → bit_of seen (bit_place e) ≢ 1 → SoFar (with_bit seen (bit_place e)) (events ++ e ∷ [])
so_far_more seen events e so unset =
    let p = bit_place e in
    let within : p / 64 < length seen = omega (arith, so.words) in
    record {
      words = length-set seen (p / 64) _ ∙ so.words;
      set = All-append (λ f. bit_of (with_bit seen p) (bit_place f) ≡ 1) events (e ∷ [])
          (λ k d h. set_stays seen p within (bit_place (get_or events k d)) (so.set k d h))
          (All-cons (λ f. bit_of (with_bit seen p) (bit_place f) ≡ 1) e [] (bit_is_set seen p within) (All-nil (λ f. bit_of (with_bit seen p) (bit_place f) ≡ 1)));
      apart = all_pairs_push (λ f g. bit_place f ≢ bit_place g) events e so.apart (λ k d h same. unset (ap (bit_of seen) (sym same) ∙ so.set k d h));
    }
