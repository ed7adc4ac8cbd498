-- A text written part by part: what was written so far, and what is left.
use Rattle.sgb_vec.proofs.Common.{rules, ◌≡◌, ◌++◌, ℕ, List, [], Option, refl, append_assoc, append-nil, Appends, Appends-trans, Appends-nil}
use Rattle.sgb_file.specs.Devices.{AppendsPrefix}
use Rattle.sgb_file.proofs.WrittenPrefixes.{prefix_more, prefix_after}

-- of all of a text, this is left, and what stands before it was written
abbrev pub SoFar : List ℕ → List ℕ → Option (List ℕ) → Option (List ℕ) → Type 0
SoFar all left before after = (done : List ℕ) × (done ++ left ≡ all) × Appends before after done

-- nothing was written
pub so_far-none : (all : List ℕ) (a : Option (List ℕ)) → SoFar all all a a
so_far-none all a = ([], refl, Appends-nil a)

-- the next part was written
pub so_far-more : (all part left rest : List ℕ) (a b c : Option (List ℕ)) → left ≡ part ++ rest → SoFar all left a b → Appends b c part → SoFar all rest a c
so_far-more all part left rest a b c e p q = search (rules, append_assoc, Appends-trans)

-- all was written
pub so_far-all : (all left : List ℕ) (a b : Option (List ℕ)) → left ≡ [] → SoFar all left a b → Appends a b all
so_far-all all left a b e p = search (rules, append-nil)

-- a prefix of the next part was written
pub so_far-prefix : (all part left rest : List ℕ) (a b c : Option (List ℕ)) → left ≡ part ++ rest → SoFar all left a b → AppendsPrefix b c part → AppendsPrefix a c all
so_far-prefix all part left rest a b c e p q = rw (← p.1, e) (prefix_after a b c p.0 (part ++ rest) p.2 (prefix_more b c part rest q))
