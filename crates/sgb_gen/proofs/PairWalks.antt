-- The arcs of a vector by pairs of places, and arcs that are put behind others.
use Rattle.std.proofs.Common.{◌≡◌, ℕ, suc, pos, ◌+◌, ◌-◌, ◌<◌, ◌≤◌, Bool, true, false, cond, List, [], ◌∷◌, ◌++◌, length, map, reverse, sym, ap, ◌∙◌, arith, append-nil, append_assoc}
use Rattle.std.specs.List.{flat_map, range_with_len}
use Rattle.std.proofs.lemmas.List.{map-append, reverse-append}
use Rattle.std.proofs.lemmas.List.Concat.{flat_map-append}
use Rattle.sgb_gen.specs.LocalLists.{LocalArc, LinksData}
use Rattle.sgb_gen.specs.inner.LocalSimplexes.{arc_by_unit, can_return, returned, arcs_back, arcs_by_pairs, arcs_on, pairs_back, pairs_down, with_arcs}
use Rattle.sgb_gen.specs.Simplexes.{Places, pairs_of_places}
use Rattle.sgb_gen.specs.inner.Simplexes.{can_shift, shifted, pairs_from}
use Rattle.sgb_vec.proofs.Lists.{made-append, range-more}

-- some arcs and then more
pub with_more : (start links new : LinksData) (some more all : List LocalArc) → links ≡ with_arcs start some → new ≡ with_arcs links more → all ≡ some ++ more → new ≡ with_arcs start all
with_more start links new some more all links_is new_is all_is =
    cc (new_is, links_is, append_assoc start.arcs some more, all_is)

-- the arc by one pair
abbrev arc_back : List ℕ → Places → LocalArc
arc_back x at = record { tip = returned x at; len = pos 1 }

abbrev arc_on : List ℕ → Places → LocalArc
arc_on x at = record { tip = shifted x at; len = pos 1 }

-- by some pairs and then by others
pub arcs_back-append : (bounds x : List ℕ) (ps qs : List Places) → arcs_back bounds x (ps ++ qs) ≡ arcs_back bounds x ps ++ arcs_back bounds x qs
arcs_back-append bounds x ps qs = made-append (can_return bounds x) (arc_back x) ps qs

pub arcs_on-append : (bounds x : List ℕ) (ps qs : List Places) → arcs_on bounds x (ps ++ qs) ≡ arcs_on bounds x ps ++ arcs_on bounds x qs
arcs_on-append bounds x ps qs = made-append (can_shift bounds x) (arc_on x) ps qs

-- what is made of the pairs of place j and those below place h, from the highest place down: the first of them, and the others
pub down-first : (f : List Places → List LocalArc) → ((ps qs : List Places) → f (ps ++ qs) ≡ f ps ++ f qs) → (h j : ℕ) → j + 1 < h → f (pairs_down h j) ≡ f (record { lower = j; higher = h - 1 } ∷ []) ++ f (pairs_down (h - 1) j)
down-first f append h j within =
    let n = h - 1 - (j + 1) in
    let at : ℕ → Places = λ k. record { lower = j; higher = k } in
    ap (λ k. f (reverse (map at (range_with_len (j + 1) k)))) {x = h - (j + 1)} {y = n + 1} (omega (arith, within))
    ∙ ap (λ r. f (reverse (map at r))) (range-more (j + 1) n)
    ∙ ap (λ l. f (reverse l)) (map-append at (range_with_len (j + 1) n) ((j + 1 + n) ∷ []))
    ∙ ap f (reverse-append (map at (range_with_len (j + 1) n)) (at (j + 1 + n) ∷ []))
    ∙ ap (λ k. f (at k ∷ pairs_down (h - 1) j)) {x = j + 1 + n} {y = h - 1} (omega (arith, within))
    ∙ append (at (h - 1) ∷ []) (pairs_down (h - 1) j)

-- and no place is left
pub down-none : (h j : ℕ) → h ≤ j + 1 → pairs_down h j ≡ []
down-none h j none = ap (λ k. reverse (map (λ k. record { lower = j; higher = k }) (range_with_len (j + 1) k))) {x = h - (j + 1)} {y = 0} (omega (arith, none))

-- the pairs of the places from j on: those of j, and the others
pub from-first : (f : List Places → List LocalArc) → ((ps qs : List Places) → f (ps ++ qs) ≡ f ps ++ f qs) → (n j : ℕ) → j < n
    → f (flat_map (pairs_down n) (range_with_len j (n - j))) ≡ f (pairs_down n j) ++ f (flat_map (pairs_down n) (range_with_len (j + 1) (n - (j + 1))))
from-first f append n j within =
    ap (λ k. f (flat_map (pairs_down n) (range_with_len j k))) {x = n - j} {y = suc (n - (j + 1))} (omega (arith, within))
    ∙ append (pairs_down n j) (flat_map (pairs_down n) (range_with_len (j + 1) (n - (j + 1))))

-- the pairs of the places below j, in the other order: those of the last of them, and the others
pub below-last : (f : List Places → List LocalArc) → ((ps qs : List Places) → f (ps ++ qs) ≡ f ps ++ f qs) → (n j : ℕ) → 0 < j
    → f (reverse (flat_map (pairs_from n) (range_with_len 0 j))) ≡ f (pairs_down n (j - 1)) ++ f (reverse (flat_map (pairs_from n) (range_with_len 0 (j - 1))))
below-last f append n j some =
    let before = flat_map (pairs_from n) (range_with_len 0 (j - 1)) in
    ap (λ k. f (reverse (flat_map (pairs_from n) (range_with_len 0 k)))) {x = j} {y = j - 1 + 1} (omega (arith, some))
    ∙ ap (λ r. f (reverse (flat_map (pairs_from n) r))) (range-more 0 (j - 1))
    ∙ ap (λ k. f (reverse (flat_map (pairs_from n) (range_with_len 0 (j - 1) ++ k ∷ [])))) {x = 0 + (j - 1)} {y = j - 1} (omega arith)
    ∙ ap (λ l. f (reverse l)) (flat_map-append (pairs_from n) (range_with_len 0 (j - 1)) ((j - 1) ∷ []) ∙ ap (λ l. before ++ l) (append-nil (pairs_from n (j - 1))))
    ∙ ap f (reverse-append before (pairs_from n (j - 1)))
    ∙ append (pairs_down n (j - 1)) (reverse before)

-- the arcs by the pairs of place j and those below place h: the arc by the first pair, and the others
pub back-first : (bounds x : List ℕ) (h j : ℕ) → j + 1 < h → arcs_back bounds x (pairs_down h j) ≡ arc_by_unit bounds x (h - 1) j ++ arcs_back bounds x (pairs_down (h - 1) j)
back-first bounds x h j within =
    let one : arcs_back bounds x (record { lower = j; higher = h - 1 } ∷ []) ≡ arc_by_unit bounds x (h - 1) j = grind (arith, arc_back) in
    down-first (arcs_back bounds x) (arcs_back-append bounds x) h j within ∙ ap (λ l. l ++ arcs_back bounds x (pairs_down (h - 1) j)) one

pub on-first : (bounds x : List ℕ) (h j : ℕ) → j + 1 < h → arcs_on bounds x (pairs_down h j) ≡ arc_by_unit bounds x j (h - 1) ++ arcs_on bounds x (pairs_down (h - 1) j)
on-first bounds x h j within =
    let one : arcs_on bounds x (record { lower = j; higher = h - 1 } ∷ []) ≡ arc_by_unit bounds x j (h - 1) = grind (arith, arc_on) in
    down-first (arcs_on bounds x) (arcs_on-append bounds x) h j within ∙ ap (λ l. l ++ arcs_on bounds x (pairs_down (h - 1) j)) one

-- the list of x: those by a unit that goes to a lower place, and in an undirected graph then the others
pub by_pairs : (b directed : Bool) (bounds x : List ℕ) → directed ≡ b
    → arcs_by_pairs directed bounds x ≡ arcs_back bounds x (pairs_back (length x)) ++ cond b [] (arcs_on bounds x (reverse (pairs_of_places (length x))))
by_pairs true directed bounds x is = ap (λ d. arcs_by_pairs d bounds x) is ∙ sym (append-nil (arcs_back bounds x (pairs_back (length x))))
by_pairs false directed bounds x is = ap (λ d. arcs_by_pairs d bounds x) is
