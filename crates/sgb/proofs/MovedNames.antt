-- The name of a vector of which some entries are moved, from the name of the vector before.
use Rattle.std.proofs.Common.{◌≡◌, ◌+◌, ◌-◌, ◌*◌, ◌^◌, ◌<◌, ◌≤◌, ℕ, ℤ, List, [], ◌∷◌, ◌++◌, nat_lt, length, take, drop, set, refl, arith, append_assoc, length-append, length-set}
use Rattle.std.proofs.lemmas.List.{drop-drop, drop-set-lt, drop-take, drop_at, length-drop, length-take-le, take-take, take_at, take_more_set}
use Rattle.std.specs.List.{All}
use Rattle.std.proofs.lemmas.List.Elements.{All-drop, All-take}
use Rattle.sgb_vec.specs.Names.{name_of_vector}
use Rattle.sgb_moves.specs.MovedCoordinates.{parts_from}
use Rattle.sgb_gen.specs.Spans.{AreMoved}
use Rattle.sgb.specs.inner.Texts.{entries_text, entry_text}
use Rattle.sgb.proofs.KeptNames.{name-back}
use Rattle.sgb.proofs.NameEntries.{entries-parts, length-entries, name-more, name-parts}

-- coordinates that rise, the first not before this one
abbrev pub AreRising : ℕ → ℕ → List (ℕ × ℤ) → Type 0
AreRising width k [] = k ≤ width
AreRising width k (p ∷ parts) = (k ≤ p.0) × (p.0 < width) × AreRising width (p.0 + 1) parts

rising-earlier : (width k : ℕ) (parts : List (ℕ × ℤ)) → AreRising width (k + 1) parts → AreRising width k parts
rising-earlier width k [] rise = omega (arith, rise)
rising-earlier width k (p ∷ parts) rise = (omega (arith, rise.0), rise.1, rise.2)

rising-from : (t : List ℤ) (k width : ℕ) → k + length t ≡ width → AreRising width k (parts_from k t)
rising-from [] k width e = omega (arith, e)
rising-from (c ∷ t) k width e = grind (arith, rising-earlier, rising-from t (k + 1) width)

-- the coordinates that a displacement moves rise
pub rising : (width : ℕ) (parts : List (ℕ × ℤ)) → AreMoved width parts → AreRising width 0 parts
rising width parts moved = grind (arith, rising-from)

-- the name of the first entries, up to a later place
name-through : (u : List ℕ) (from to : ℕ) → from ≤ to → to ≤ length u
    → name_of_vector (take to u) ≡ name_of_vector (take from u) ++ entries_text (nat_lt 0 from) (take (to - from) (drop from u))
name-through u from to order within =
    let parts = name-parts (take to u) from (omega (arith, length-take-le to u within)) in
    let rest = drop-take from (to - from) u in
    grind (arith, take-take)

-- the part of a name between two places
pub name-between : (v name : List ℕ) (from to start end : ℕ) → name ≡ name_of_vector v → from ≤ to → to ≤ length v
    → start ≡ length (name_of_vector (take from v)) → end ≡ length (name_of_vector (take to v))
    → take (end - start) (drop start name) ≡ entries_text (nat_lt 0 from) (take (to - from) (drop from v))
name-between v name from to start end is order within starts ends =
    let front = name-through v from to order within in
    let parts = entries-parts v from to order within in
    let whole = name-parts v from (omega (arith, order, within)) in
    grind (arith, drop_at, take_at, length-append)

-- how long it may be
pub between-size : (v : List ℕ) (from to start end : ℕ) → from ≤ to → to ≤ length v
    → start ≡ length (name_of_vector (take from v)) → end ≡ length (name_of_vector (take to v)) → start ≤ end
between-size v from to start end order within starts ends =
    let front = name-through v from to order within in
    grind (arith, length-append)

pub between-room : (v : List ℕ) (from to start end : ℕ) → from ≤ to → to ≤ length v → All (λ n. n < 2 ^ 32) v
    → start ≡ length (name_of_vector (take from v)) → end ≡ length (name_of_vector (take to v)) → end ≤ start + 11 * (to - from)
between-room v from to start end order within small starts ends =
    let front = name-through v from to order within in
    let most = length-entries (nat_lt 0 from) (take (to - from) (drop from v)) (All-take (λ n. n < 2 ^ 32) (to - from) (drop from v) (All-drop (λ n. n < 2 ^ 32) from v small)) in
    grind (arith, length-append, length-take-le, length-drop)

-- of w, in which the coordinates left are still to be put, the name of the entries before this place stands after what was there
abbrev pub IsMovedSoFar : (List (ℕ × ℤ) → List ℕ → List ℕ) → List ℕ → List ℕ → List (ℕ × ℤ) → ℕ → List ℕ → List ℕ → Type 0
IsMovedSoFar put w v left place old page =
    (u : List ℕ) × (put left u ≡ w) × (length u ≡ length v) × (drop place u ≡ drop place v) × AreRising (length v) place left
    × (page ≡ old ++ name_of_vector (take place u))

-- at the start nothing stands there
pub moved-none : (put : List (ℕ × ℤ) → List ℕ → List ℕ) (v : List ℕ) (parts : List (ℕ × ℤ)) (page : List ℕ) → AreMoved (length v) parts
    → page ≡ page ++ name_of_vector [] → IsMovedSoFar put (put parts v) v parts 0 page page
moved-none put v parts page moved empty = (v, refl, refl, refl, rising (length v) parts moved, empty)

-- the next coordinate does not stand before this place
pub moved-order : (put : List (ℕ × ℤ) → List ℕ → List ℕ) (w v : List ℕ) (p : ℕ × ℤ) (left rest : List (ℕ × ℤ)) (place : ℕ) (old page : List ℕ)
    → left ≡ p ∷ rest → IsMovedSoFar put w v left place old page → (place ≤ p.0) × (p.0 < length v)
moved-order put w v p left rest place old page first (u, whole, size, same, rise, text) = grind arith

-- an entry more
pub moved-more : (put : List (ℕ × ℤ) → List ℕ → List ℕ) (w v : List ℕ) (p : ℕ × ℤ) (left rest : List (ℕ × ℤ)) (place k entry : ℕ) (old page after : List ℕ)
    → left ≡ p ∷ rest → p.0 ≡ k → ((u : List ℕ) → put (p ∷ rest) u ≡ put rest (set u k entry))
    → after ≡ page ++ (entries_text (nat_lt 0 place) (take (k - place) (drop place v)) ++ entry_text (nat_lt 0 k) entry)
    → IsMovedSoFar put w v left place old page → IsMovedSoFar put w v rest (k + 1) old after
moved-more put w v p left rest place k entry old page after first here step is (u, whole, size, same, rise, text) =
    let order : place ≤ k = grind arith in
    let within : k < length u = grind arith in
    let count : length (take k u) ≡ k = length-take-le k u (omega (arith, within)) in
    let through = name-through u place k order (omega (arith, within)) in
    let name = name-more (take k u) entry in
    let front = take_more_set u k entry within in
    let left = drop-drop (k + 1 - place) place u in
    let stays = drop-drop (k + 1 - place) place v in
    (set u k entry, grind arith, grind (arith, length-set), grind (arith, drop-set-lt), grind arith, grind (arith, append_assoc))

-- the entries that are left stay as they are
pub moved-all : (put : List (ℕ × ℤ) → List ℕ → List ℕ) (w v name : List ℕ) (left : List (ℕ × ℤ)) (place end : ℕ) (old page after : List ℕ)
    → left ≡ [] → ((u : List ℕ) → put [] u ≡ u) → name ≡ name_of_vector v → end ≡ length (name_of_vector (take place v))
    → after ≡ page ++ drop end name → IsMovedSoFar put w v left place old page → after ≡ old ++ name_of_vector w
moved-all put w v name left place end old page after none stays named ends is (u, whole, size, same, rise, text) = grind (arith, name-back, append_assoc, name-parts)
