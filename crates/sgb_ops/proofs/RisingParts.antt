-- Events in parts, each of which begins at vertices before those of all later parts: they share no ends.
use Rattle.sgb_vec.proofs.Common.{◌≡◌, ◌<◌, ◌≤◌, ◌+◌, ℕ, Bool, false, List, [], ◌∷◌, ◌++◌, refl, sym, ap, ◌∙◌, arith, All, flat_map, range_with_len, All-filter, filter-append}
use Rattle.sgb_vec.proofs.Lists.{never_true}
use Rattle.sgb_graph.specs.Events.{Event}
use Rattle.sgb_ops.specs.inner.Induced.{is_wanted, wanted}
use Rattle.sgb_ops.specs.Merged.{merged_unless}
use Rattle.sgb_ops.proofs.Ends.{ends}
use Rattle.sgb_ops.proofs.MergedParts.{AreApart, merged_parts}

-- the event comes from a vertex of a to b; an edge leads to none before a
abbrev pub Rises : Bool → ℕ → ℕ → Event → Type 0
Rises directed a b e = (a ≤ e.from) × (e.from < b) × (directed ≡ false → a ≤ e.to)

pub rises_wider : (directed : Bool) (a b c d : ℕ) (e : Event) → a ≤ c → d ≤ b → Rises directed c d e → Rises directed a b e
rises_wider directed a b c d e low high r = (omega (arith, low, r.0), omega (arith, high, r.1), λ same. omega (arith, low, r.2 same))

parts_apart : (directed : Bool) (a b c d : ℕ) (xs ys : List Event) → b ≤ c → All (Rises directed a b) xs → All (Rises directed c d) ys → AreApart directed xs ys
parts_apart directed a b c d xs ys after one two = grind (arith, never_true, ends)

-- the wanted ones are those of each part
wanted_parts : (self : Bool) (f : ℕ → List Event) (ks : List ℕ) → wanted self (flat_map f ks) ≡ flat_map (λ k. wanted self (f k)) ks
wanted_parts self f [] = refl
wanted_parts self f (k ∷ ks) = filter-append (is_wanted self) (f k) (flat_map f ks) ∙ ap (λ es. wanted self (f k) ++ es) (wanted_parts self f ks)

-- so they are merged part by part
pub merged_rising : (self multi directed : Bool) (f : ℕ → List Event) (low : ℕ → ℕ) (v count : ℕ)
    → ((u : ℕ) → v ≤ u → u < v + count → All (Rises directed (low u) (low (u + 1))) (f u))
    → ((u w : ℕ) → u < w → low (u + 1) ≤ low w)
    → flat_map (λ u. merged_unless multi directed (wanted self (f u))) (range_with_len v count) ≡ merged_unless multi directed (wanted self (flat_map f (range_with_len v count)))
merged_rising self multi directed f low v count each order =
    rw (wanted_parts self f (range_with_len v count))
    (sym (merged_parts multi directed (λ u. wanted self (f u)) v count
    (λ u w from less to. parts_apart directed (low u) (low (u + 1)) (low w) (low (w + 1)) (wanted self (f u)) (wanted self (f w)) (order u w less)
    (All-filter (is_wanted self) (Rises directed (low u) (low (u + 1))) (f u) (each u from (omega (arith, less, to))))
    (All-filter (is_wanted self) (Rises directed (low w) (low (w + 1))) (f w) (each w (omega (arith, from, less)) to)))))
