-- What is noted of arcs.
use Rattle.sgb_vec.proofs.Common.{◌≡◌, ◌<◌, ◌≤◌, ◌+◌, ◌==◌, ℕ, pos, Bool, true, false, cond, List, [], ◌∷◌, ◌++◌, length, sym, ap, ◌∙◌, append-nil, arith, All, filter, if◌then◌else◌, option_map_or, eq-eqb, eqb-true, length-append, All-filter, filter-append, filter_passes, length-filter, count_by-le-length}
use Rattle.sgb_graph.specs.declared.fields.Link.{Link}
use Rattle.sgb_ops.specs.Intersection.{count_to}
use Rattle.sgb_ops.specs.inner.Tallies.{tally_of, tally_to}
use Rattle.sgb_ops.specs.declared.tallies.Tally.{Tally}
use Rattle.sgb_taken.proofs.TakenTips.{TipBelow}

-- any arc
abbrev pub no_arc : Link
no_arc = record { number = 0; tip = 0; len = pos 0 }

-- the arcs that lead to u
abbrev pub arcs_to : ℕ → List Link → List Link
arcs_to u links = filter (λ l. l.tip == u) links

arcs_to_more : (u : ℕ) (links : List Link) (l : Link) (b : Bool) → (l.tip == u) ≡ b → arcs_to u (links ++ l ∷ []) ≡ arcs_to u links ++ (if b then l ∷ [] else [])
arcs_to_more u links l b is =
    filter-append (λ x. x.tip == u) links (l ∷ []) ∙ ap (λ c. arcs_to u links ++ cond c (l ∷ []) []) is

-- how many arcs to u there are
counted : (u : ℕ) (links : List Link) → count_to u links ≡ length (arcs_to u links)
counted u links = sym (length-filter (λ (x : Link). x.tip == u) links)

-- one more arc later
pub count_more : (u : ℕ) (links : List Link) (l : Link) (b : Bool) → (l.tip == u) ≡ b → count_to u (links ++ l ∷ []) ≡ (if b then count_to u links + 1 else count_to u links)
count_more u links l true is = omega (arith, counted u (links ++ l ∷ []), counted u links, ap length (arcs_to_more u links l true is), length-append (arcs_to u links) (l ∷ []))
count_more u links l false is = omega (arith, counted u (links ++ l ∷ []), counted u links, ap length (arcs_to_more u links l false is ∙ append-nil (arcs_to u links)))

-- an arc that stands after others is not among them
pub count_at : (u : ℕ) (before links : List Link) (l : Link) → l.tip ≡ u → count_to u before < count_to u (before ++ l ∷ links)
count_at u before links l here = grind (arith, counted u before, counted u (before ++ l ∷ links), filter-append, eq-eqb, length-append)

-- a tally counts no more arcs than there are
few_of : (links : List Link) → option_map_or (λ (t : Tally). t.count + 1) (tally_of links) 0 ≤ length links + 1
few_of links = grind arith

pub few_to : (u : ℕ) (links : List Link) → option_map_or (λ (t : Tally). t.count + 1) (tally_to u links) 0 ≤ length links + 1
few_to u links = grind (arith, few_of, length-filter, count_by-le-length)

-- a vertex that some of the arcs lead to is below n where they all lead below n
pub tip_counted : (n u : ℕ) (links : List Link) → All (TipBelow n) links → 0 < count_to u links → u < n
tip_counted n u links all some =
    let within : 0 < length (arcs_to u links) = omega (arith, some, counted u links) in
    let there = filter_passes (λ (x : Link). x.tip == u) links 0 no_arc within in
    omega (arith, All-filter (λ (x : Link). x.tip == u) (TipBelow n) links all 0 no_arc within, eqb-true _ u there)
