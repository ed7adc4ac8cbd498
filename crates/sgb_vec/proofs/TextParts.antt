-- Three texts, one after another.
use Rattle.sgb_vec.proofs.Common.{rules, ◌≡◌, ◌≤◌, ◌+◌, ◌++◌, ℕ, List, [], length, append_assoc, arith, All, length-append, All-append}
use Rattle.sgb_vec.specs.Limits.{most_bytes}
use Rattle.sgb_vec.specs.Names.{IsText, IsTextByte}

-- they are a text
pub parts_are_text : (a b c : List ℕ) → length a + length b + length c ≤ most_bytes → All IsTextByte a → All IsTextByte b → All IsTextByte c
    → IsText (a ++ b ++ c)
parts_are_text a b c fits first second third = search (rules, length-append, All-append)

-- put together one by one
pub put_together : (a b c none x y z : List ℕ) → none ≡ [] → x ≡ none ++ a → y ≡ x ++ b → z ≡ y ++ c → z ≡ a ++ b ++ c
put_together a b c none x y z empty one two three = grind (arith, append_assoc)
