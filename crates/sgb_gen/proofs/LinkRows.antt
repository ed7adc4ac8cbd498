-- Arcs that are kept with their vectors one after another.
use Rattle.std.proofs.Common.{rules, ◌≡◌, ℕ, zero, suc, ◌+◌, ◌*◌, ◌<◌, ◌≤◌, pos, List, [], ◌∷◌, ◌++◌, length, get_or, take, drop, Some, refl, ap, arith, length-append, length-drop}
use Rattle.std.specs.List.{slice_get}
use Rattle.std.proofs.lemmas.List.{take_all, take-append-le, drop-append-le, drop-drop}
use Rattle.std.proofs.lemmas.Nat.{mul-le}
use Rattle.sgb_gen.specs.inner.LocalArcs.{arcs_in}
use Rattle.sgb_gen.specs.inner.LocalSimplexes.{with_arcs}
use Rattle.sgb_gen.specs.LocalLists.{LinksData}

-- as many arcs as lengths
pub length-arcs_in : (width : ℕ) (tips lens : List ℕ) → length (arcs_in width tips lens) ≡ length lens
length-arcs_in width tips [] = refl
length-arcs_in width tips (n ∷ lens) = ap suc (length-arcs_in width (drop width tips) lens)

-- a row stands within the entries of all
pub row_within : (width count place : ℕ) → place < count → place * width + width ≤ count * width
row_within width count place h = omega (arith, mul-le (place + 1) width count width (omega arith) (omega arith))

-- the arc at a place
pub slice_get-arcs_in : (width : ℕ) (tips lens : List ℕ) (i : ℕ) → i < length lens → slice_get (arcs_in width tips lens) i ≡ Some (record { tip = take width (drop (i * width) tips); len = pos (get_or lens i 0) })
slice_get-arcs_in width tips [] i h = absurd (omega arith)
slice_get-arcs_in width tips (n ∷ lens) zero h = grind (arith)
slice_get-arcs_in width tips (n ∷ lens) (suc i) h = grind (arith, drop-drop, slice_get-arcs_in width (drop width tips) lens i (omega arith))

-- no entries
no_entries : (xs : List ℕ) → length xs ≡ 0 → xs ≡ []
no_entries [] e = refl
no_entries (x ∷ xs) e = absurd (omega arith)

-- one more arc behind the others
pub arcs_in-push : (width : ℕ) (tips lens tip : List ℕ) (n : ℕ) → length tips ≡ length lens * width → length tip ≡ width → arcs_in width (tips ++ tip) (lens ++ n ∷ []) ≡ arcs_in width tips lens ++ record { tip = tip; len = pos n } ∷ []
arcs_in-push width tips [] tip n long wide = grind (arith, no_entries, take_all)
arcs_in-push width tips (m ∷ lens) tip n long wide = grind (arith, take-append-le, drop-append-le, length-drop, arcs_in-push width (drop width tips) lens tip n (omega (arith, length-drop width tips)) wide)

-- with one more arc there are still as many entries as arcs times the width
pub rows-push : (width n : ℕ) (kept lens tip tips news : List ℕ) → tips ≡ kept ++ tip → news ≡ lens ++ n ∷ [] → length kept ≡ length lens * width → length tip ≡ width → length tips ≡ length news * width
rows-push width n kept lens tip tips news tips_are news_are long wide = search (rules, length-append)

-- ---- one arc more

-- the links with one more arc, whose entries and length are put behind the others
pub arc-pushed : (w n : ℕ) (d : LinksData) (kept lens tip tips news : List ℕ) → record { width = w; arcs = arcs_in w kept lens } ≡ d → length kept ≡ length lens * w → length tip ≡ d.width → tips ≡ kept ++ tip → news ≡ lens ++ n ∷ []
    → ◌≡◌ {A = LinksData} (record { width = w; arcs = arcs_in w tips news }) (with_arcs d (record { tip = tip; len = pos n } ∷ []))
arc-pushed w n d kept lens tip tips news view long wide tips_are news_are = grind (arith, arcs_in-push)
