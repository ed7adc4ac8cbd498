-- Marks at the vertices that a list leads to.
use Rattle.sgb_vec.proofs.Common.{◌≡◌, ℕ, ◌+◌, ◌<◌, ◌≤◌, Bool, cond, List, ◌∷◌, ◌++◌, length, take, set, get_or, ◌∙◌, arith, cases_Bool, cond_both, nat_tests, get_or-set_same, get_or-set_other, take-append-le, take_all}
use Rattle.sgb_ops.proofs.CopiedArcs.{is_among}

-- what stands at w: the mark where it is one of these, else what these marks have
abbrev pub mark_at : List ℕ → ℕ → List ℕ → ℕ → ℕ
mark_at tips mark marks w = cond (is_among w tips) mark (get_or marks w 0)

-- the first of them is marked
pub mark_at-next : (t : ℕ) (tips : List ℕ) (mark : ℕ) (marks : List ℕ) (w : ℕ) → t < length marks → mark_at tips mark (set marks t mark) w ≡ mark_at (t ∷ tips) mark marks w
mark_at-next t tips mark marks w within = grind (arith, cases_Bool, nat_tests, get_or-set_same, cond_both, get_or-set_other)

-- no mark is greater
pub mark_le : (b : Bool) (u m : ℕ) → m ≤ u → cond b (u + 1) m ≤ u + 1
mark_le b u m earlier = grind (arith, cases_Bool)

-- marks that were lent as a whole
pub lent_back : (n : ℕ) (marks beyond : List ℕ) → length marks ≡ n → take n (marks ++ beyond) ≡ marks
lent_back n marks beyond e = take-append-le n marks beyond (omega arith) ∙ take_all n marks (omega arith)
