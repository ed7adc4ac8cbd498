-- Prefixes of texts, written one after the other.
use Rattle.sgb_vec.proofs.Common.{◌++◌, ℕ, Bool, List, [], Option, Result, Ok, Err, refl, sym, ap, ◌∙◌, append_assoc, append-nil, arith, Appends, Appends-trans, Appends-nil}
use Rattle.sgb_file.specs.Devices.{AppendsPrefix, AppendsUnlessFailed, Change, IsPut}

-- a whole text is a prefix of itself
pub prefix_all : (a b : Option (List ℕ)) (xs : List ℕ) → Appends a b xs → AppendsPrefix a b xs
prefix_all a b xs p = (xs, [], sym (append-nil xs), p)

-- nothing is a prefix of any text
pub prefix_none : (a : Option (List ℕ)) (xs : List ℕ) → AppendsPrefix a a xs
prefix_none a xs = ([], xs, refl, Appends-nil a)

-- a prefix of a text is one of the text with more after it
pub prefix_more : (a b : Option (List ℕ)) (xs ys : List ℕ) → AppendsPrefix a b xs → AppendsPrefix a b (xs ++ ys)
prefix_more a b xs ys p = (p.0, p.1 ++ ys, ap (λ l. l ++ ys) p.2 ∙ append_assoc p.0 p.1 ys, p.3)

-- after a whole text, a prefix of the next
pub prefix_after : (a b c : Option (List ℕ)) (xs ys : List ℕ) → Appends a b xs → AppendsPrefix b c ys → AppendsPrefix a c (xs ++ ys)
prefix_after a b c xs ys p q = (xs ++ q.0, q.1, ap (λ l. xs ++ l) q.2 ∙ sym (append_assoc xs q.0 q.1), Appends-trans a b c xs q.0 p q.3)

-- what was put, whether or not the sink has failed
pub unless_failed : {T E : Type 0} (xs : List ℕ) (sink : Change) (r : Result T E) → IsPut xs sink r → AppendsUnlessFailed sink xs
unless_failed xs sink (Ok x) p = grind (arith, prefix_all)
unless_failed xs sink (Err e) p = grind arith

-- after a whole text, what becomes of the next is what becomes of both
pub put_after : {T E : Type 0} (a b c : Option (List ℕ)) (failed : Bool) (xs ys : List ℕ) (r : Result T E) → Appends a b xs
    → IsPut ys (record { before = b; after = c; failed = failed }) r → IsPut (xs ++ ys) (record { before = a; after = c; failed = failed }) r
put_after a b c failed xs ys (Ok x) p q = Appends-trans a b c xs ys p q
put_after a b c failed xs ys (Err e) p q = (prefix_after a b c xs ys p q.0, q.1)
