-- Bytes that are moved a word at once, of which a first part counts.
use Rattle.sgb_vec.proofs.Common.{◌≡◌, ◌≤◌, ◌+◌, ◌++◌, ℕ, List, length, take, arith, take-append-add, length-take-le, take-take}
use borrow.Rule.Slice.PartMut.{put_mid}
use Rattle.std.proofs.lemmas.Slice.{take-put_mid}

-- what stands before a place, and a first part of the word that was put there
pub word_put : (all word : List ℕ) (place span width count : ℕ) → length word ≡ width → count ≤ width → place ≤ length all
    → take (place + count) (put_mid place span all word) ≡ take place all ++ take count word
word_put all word place span width count whole few within =
    let put = take-put_mid place span all word (place + width) (omega (arith, whole)) within in
    let front = take-take (place + count) (place + width) (put_mid place span all word) (omega (arith, few)) in
    let parts = take-append-add (take place all) word count in
    grind (arith, length-take-le)

-- a first part of a word is one of what the word was taken from
pub word_front : (bytes : List ℕ) (width count : ℕ) → count ≤ width → take count (take width bytes) ≡ take count bytes
word_front bytes width count few = take-take count width bytes few
