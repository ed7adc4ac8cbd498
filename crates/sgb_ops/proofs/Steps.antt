-- The steps of a product depend on the tips and the lengths of arcs alone.
use Rattle.sgb_vec.proofs.Common.{◌≡◌, ◌∙◌, ◌++◌, ◌==◌, ℕ, Bool, true, List, [], ◌∷◌, length, map, flat_map, refl, sym, ap, ap₂, subst, arith, Decides-eqb}
use Rattle.std.specs.List.{range_with_len}
use Rattle.sgb_graph.specs.Graphs.{GraphData, chain_of}
use Rattle.sgb_graph.specs.Growth.{AddsEvents}
use Rattle.sgb_graph.proofs.AddedEvents.{adds-none}
use Rattle.sgb_graph.specs.Vertices.{order_of, places_of}
use Rattle.sgb_graph.specs.declared.fields.Link.{Link}
use Rattle.sgb_ops.specs.declared.products.steps.Axis.{Axis}
use Rattle.sgb_ops.specs.inner.Sources.{bare}
use Rattle.sgb_ops.specs.inner.Steps.{both_step, both_steps_by, both_steps_of_row, step_along, steps_by}

-- those along an axis
steps_bare : (axis : Axis) (n h v : ℕ) (arcs : List Link) → steps_by axis n h v (map bare arcs) ≡ steps_by axis n h v arcs
steps_bare axis n h v [] = refl
steps_bare axis n h v (l ∷ arcs) = ap (λ es. map (step_along axis n h v l) (range_with_len 0 h) ++ es) (steps_bare axis n h v arcs)

pub same_steps : (axis : Axis) (n h v : ℕ) (arcs read : List Link) → map bare read ≡ map bare arcs → steps_by axis n h v read ≡ steps_by axis n h v arcs
same_steps axis n h v arcs read same = sym (steps_bare axis n h v read) ∙ (ap (steps_by axis n h v) same ∙ steps_bare axis n h v arcs)

-- those in both, by one arc of x
step_bare : (h x y : ℕ) (a : Link) (others : List Link) → map (both_step h x y a) (map bare others) ≡ map (both_step h x y a) others
step_bare h x y a [] = refl
step_bare h x y a (b ∷ others) = ap (λ es. both_step h x y a b ∷ es) (step_bare h x y a others)

-- by all that are taken of it
both_bare : (h x y : ℕ) (row others : List Link) → both_steps_by h x y (map bare row) (map bare others) ≡ both_steps_by h x y row others
both_bare h x y [] others = refl
both_bare h x y (a ∷ row) others = ap₂ (λ es fs. es ++ fs) (step_bare h x y a others) (both_bare h x y row others)

pub same_both : (h x y : ℕ) (row read others found : List Link) → map bare read ≡ map bare row → map bare found ≡ map bare others
    → both_steps_by h x y read found ≡ both_steps_by h x y row others
same_both h x y row read others found first second =
    sym (both_bare h x y read found) ∙ (ap₂ (both_steps_by h x y) first second ∙ both_bare h x y row others)

-- from all pairs of x
row_of : (g : GraphData) (x : ℕ) (row read : List Link) (ys : List ℕ) → map bare read ≡ map bare row
    → flat_map (λ y. both_steps_by (order_of g) x y read (chain_of g y)) ys ≡ flat_map (λ y. both_steps_by (order_of g) x y row (chain_of g y)) ys
row_of g x row read [] same = refl
row_of g x row read (y ∷ ys) same = ap₂ (λ es fs. es ++ fs) (same_both (order_of g) x y row read (chain_of g y) (chain_of g y) same refl) (row_of g x row read ys same)

pub same_row : (g : GraphData) (x : ℕ) (row read : List Link) → map bare read ≡ map bare row → both_steps_of_row g x read ≡ both_steps_of_row g x row
same_row g x row read same = row_of g x row read (places_of g) same

-- with no arc of x there is none
none_of : (g : GraphData) (x : ℕ) (ys : List ℕ) → flat_map (λ y. both_steps_by (order_of g) x y [] (chain_of g y)) ys ≡ []
none_of g x [] = refl
none_of g x (y ∷ ys) = none_of g x ys

pub none_to_add : (directed : Bool) (built g : GraphData) (x : ℕ) (row : List Link) → (length row == 0) ≡ true → AddsEvents directed built built (both_steps_of_row g x row)
none_to_add directed built g x [] none = subst (AddsEvents directed built built) (sym (none_of g x (places_of g))) (adds-none directed built)
none_to_add directed built g x (a ∷ row) none = absurd (omega (arith, (Decides-eqb (length (a ∷ row)) 0).0 none))
