-- The name of a vector, entry by entry.
use Rattle.std.proofs.Common.{◌≡◌, ◌+◌, ◌-◌, ◌*◌, ◌^◌, ◌<◌, ◌≤◌, ℕ, Bool, true, false, List, [], ◌∷◌, ◌++◌, ◌||◌, nat_lt, length, map, take, drop, get_or, refl, sym, ap, arith, append-nil, append_assoc, length-append, decimal}
use Rattle.std.specs.List.{All, join_with_byte}
use Rattle.std.proofs.lemmas.Bool.Decides.{nat_tests}
use Rattle.std.proofs.lemmas.Fmt.{length-decimal-le}
use Rattle.std.proofs.lemmas.List.{drop-drop, get_or-drop, length-drop, length-take-le, take-append-drop, take_more}
use Rattle.std.proofs.lemmas.List.Elements.{All-head, All-tail}
use Rattle.sgb_vec.specs.Names.{name_of_vector}
use Rattle.sgb.specs.inner.Texts.{entries_text, entry_text}

joined : (entry : ℕ) (entries : List ℕ) → join_with_byte 46 (decimal entry ∷ map decimal entries) ≡ decimal entry ++ entries_text true entries
joined entry [] = sym (append-nil (decimal entry))
joined entry (next ∷ entries) = ap (λ text. decimal entry ++ 46 ∷ text) (joined next entries)

-- the name is that of all entries
pub name-entries : (v : List ℕ) → name_of_vector v ≡ entries_text false v
unfolding name_of_vector
name-entries [] = refl
name-entries (entry ∷ entries) = joined entry entries

-- an entry that is not the first comes after a dot
dots : (from count to : ℕ) → from + count ≡ to → (nat_lt 0 from || nat_lt 0 count) ≡ nat_lt 0 to
dots from count to e = grind (arith, nat_tests)

-- entries before others
entries-append : (dotted : Bool) (a b : List ℕ) → entries_text dotted (a ++ b) ≡ entries_text dotted a ++ entries_text (dotted || nat_lt 0 (length a)) b
entries-append dotted [] b = grind arith
entries-append dotted (x ∷ a) b = grind (arith, append_assoc, entries-append true a b)

-- entries from a place on, before and after a later place
pub entries-parts : (v : List ℕ) (from to : ℕ) → from ≤ to → to ≤ length v → entries_text (nat_lt 0 from) (drop from v) ≡ entries_text (nat_lt 0 from) (take (to - from) (drop from v)) ++ entries_text (nat_lt 0 to) (drop to v)
entries-parts v from to order within =
    let w = drop from v in
    let parts = entries-append (nat_lt 0 from) (take (to - from) w) (drop (to - from) w) in
    grind (arith, take-append-drop, dots, drop-drop, length-take-le, length-drop)

-- the name of the entries before a place, and the text of those from there on
pub name-parts : (v : List ℕ) (k : ℕ) → k ≤ length v → name_of_vector v ≡ name_of_vector (take k v) ++ entries_text (nat_lt 0 k) (drop k v)
name-parts v k within =
    let parts = entries-parts v 0 k (omega arith) within in
    grind (arith, name-entries)

-- one entry more
pub entries-more : (v : List ℕ) (from to : ℕ) → from ≤ to → to < length v → entries_text (nat_lt 0 from) (take (to + 1 - from) (drop from v)) ≡ entries_text (nat_lt 0 from) (take (to - from) (drop from v)) ++ entry_text (nat_lt 0 to) (get_or v to 0)
entries-more v from to order within =
    let w = drop from v in
    let entry = get_or-drop from v (to - from) 0 in
    let more = take_more w (to - from) 0 (omega (arith, length-drop from v)) in
    grind (arith, entries-append, dots, append-nil, length-take-le, length-drop)

-- the name with one entry more
pub name-more : (v : List ℕ) (entry : ℕ) → name_of_vector (v ++ entry ∷ []) ≡ name_of_vector v ++ entry_text (nat_lt 0 (length v)) entry
name-more v entry = grind (arith, name-entries, entries-append, append-nil)

-- how long the text of entries may be
pub length-entries : (dotted : Bool) (v : List ℕ) → All (λ n. n < 2 ^ 32) v → length (entries_text dotted v) ≤ 11 * length v
length-entries dotted [] small = omega arith
length-entries dotted (entry ∷ v) small = grind (arith, length-append, length-decimal-le 10, All-head, length-entries true v (All-tail (λ n. n < 2 ^ 32) entry v small))
