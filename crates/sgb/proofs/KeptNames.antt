-- Names that are kept from one vector to the next.
use Rattle.std.proofs.Common.{rules, ◌≡◌, ◌+◌, ◌-◌, ◌*◌, ◌^◌, ◌<◌, ◌≤◌, ℕ, Bool, List, [], ◌∷◌, ◌++◌, nat_lt, length, take, drop, get_or, arith, append_assoc, length-append}
use Rattle.std.specs.List.{All}
use Rattle.std.proofs.lemmas.Bool.{cases_lt}
use Rattle.std.proofs.lemmas.List.{drop_at, get_or-append_right, get_or-take, get_or_append_left, length-drop, length-take-le, take-append-le, take-take, take_all, take_at}
use Rattle.std.proofs.lemmas.List.Elements.{All-drop, All-nil, All-push, All-take}
use Rattle.sgb_vec.specs.Names.{name_of_vector}
use Rattle.sgb.specs.inner.KeptNames.{IsKeptName}
use Rattle.sgb.specs.inner.Texts.{entries_text, entry_text}
use Rattle.sgb_vec.proofs.VectorNames.{length-name_of_vector-le}
use Rattle.sgb.proofs.NameEntries.{entries-parts, length-entries, name-entries, name-more, name-parts}

-- a number of 32 bits
abbrev IsSmall : ℕ → Type 0
IsSmall n = n < 2 ^ 32

-- the name of no entries
pub kept-none : IsKeptName [] [] []
kept-none = grind (arith, name-entries, All-nil)

-- what the first entries take is the first part of the name
pub name-front : (v : List ℕ) (k : ℕ) → k ≤ length v → take (length (name_of_vector (take k v))) (name_of_vector v) ≡ name_of_vector (take k v)
name-front v k within = grind (arith, name-parts v k within, take_at)

-- and what the others take is what comes after it
pub name-back : (v : List ℕ) (k : ℕ) → k ≤ length v → drop (length (name_of_vector (take k v))) (name_of_vector v) ≡ entries_text (nat_lt 0 k) (drop k v)
name-back v k within = grind (arith, name-parts v k within, drop_at)

-- a part of the name is not longer than it
pub name-within : (v : List ℕ) (k : ℕ) → k ≤ length v → length (name_of_vector (take k v)) ≤ length (name_of_vector v)
name-within v k within = grind (arith, name-parts v k within, length-append)

-- the first entries take at most eleven bytes each
pub front-short : (v : List ℕ) (k : ℕ) → k ≤ length v → All IsSmall v → length (name_of_vector (take k v)) ≤ 11 * k
front-short v k within small = omega (arith, length-name_of_vector-le (take k v) (All-take IsSmall k v small), length-take-le k v within)

-- where an entry ends in the name
pub kept-end : (v ends text : List ℕ) (k : ℕ) → 0 < k → k ≤ length v → IsKeptName v ends text → get_or ends (k - 1) 0 ≡ length (name_of_vector (take k v))
kept-end v ends text k some within kept = grind (arith)

-- the first entries alone
pub kept-front : (v ends text : List ℕ) (k end : ℕ) → k ≤ length v → end ≡ length (name_of_vector (take k v)) → IsKeptName v ends text
    → IsKeptName (take k v) (take k ends) (take end text)
kept-front v ends text k end within is kept = grind (arith, length-take-le, name-front, All-take, get_or-take, take-take)

-- one entry more
pub kept-more : (v ends text after : List ℕ) (dotted : Bool) (entry end : ℕ) → entry < 2 ^ 32 → length v ≤ 250 → IsKeptName v ends text → dotted ≡ nat_lt 0 (length v)
    → after ≡ text ++ entry_text dotted entry → end ≡ length after → IsKeptName (v ++ entry ∷ []) (ends ++ end ∷ []) after
kept-more v ends text after dotted entry end small few kept dot put is =
    search (rules, name-more, length-append, All-push, cases_lt, get_or_append_left, take-append-le, get_or-append_right, take_all)

-- the name of another vector, of which the first entries and the last ones are the same, in a line after what it had
module _ (v w line name : List ℕ) (from to start end : ℕ) (is : name ≡ name_of_vector v) (order : from ≤ to) (within : to ≤ length v)
    (starts : start ≡ length (name_of_vector (take from v))) (ends : end ≡ length (name_of_vector (take to v))) where
  pub other-text : length w ≡ length v → take from v ≡ take from w → drop to v ≡ drop to w
      → ((line ++ take start name) ++ entries_text (nat_lt 0 from) (take (to - from) (drop from w))) ++ drop end name ≡ line ++ name_of_vector w
  other-text width first last = grind (arith, name-front, name-back, append_assoc, entries-parts, name-parts)

-- what is after a place in a name is short
back-short : (v : List ℕ) (k : ℕ) → k ≤ length v → All IsSmall v → length (drop (length (name_of_vector (take k v))) (name_of_vector v)) ≤ 11 * (length v - k)
back-short v k within small = grind (arith, name-back, length-entries (nat_lt 0 k) (drop k v) (All-drop IsSmall k v small), length-drop)

-- what a kept name has after a place, of the vector that it is seen as
pub kept-back : (w v ends text : List ℕ) (to end : ℕ) → IsKeptName w ends text → w ≡ v → to ≤ length v → end ≡ length (name_of_vector (take to v))
    → (end ≤ length text) × (length text ≤ end + 11 * (length v - to))
kept-back w v ends text to end kept same within is =
    grind (arith, back-short v to within (rw same at kept.small), name-within, length-drop (length (name_of_vector (take to v))) (name_of_vector v))

-- and before one, after a line
pub kept-start : (w v ends text line : List ℕ) (from end : ℕ) → IsKeptName w ends text → w ≡ v → from ≤ length v → end ≡ length (name_of_vector (take from v))
    → length (line ++ take end text) ≤ length line + 11 * from
kept-start w v ends text line from end kept same within is = grind (arith, name-front, length-append, front-short)
