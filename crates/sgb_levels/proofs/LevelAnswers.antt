-- The lines of distances, one after the other, and how an answer of them ends.
use Rattle.std.proofs.Common.{◌≡◌, ◌∙◌, ◌+◌, ◌<◌, ◌≤◌, ℕ, Bool, false, List, [], ◌++◌, length, get_or, Option, Some, None, Result, Ok, Err, refl, sym, ap, subst, inl, inr, arith}
use Rattle.std.specs.List.{flat_map}
use Rattle.std.proofs.lemmas.List.{ext_get_or}
use Rattle.sgb_vec.specs.declared.panics.Panic.{Panic}
use Rattle.sgb_graph.specs.Graphs.{GraphData}
use Rattle.sgb_graph.specs.Vertices.{names_of}
use Rattle.sgb_requests.specs.declared.faults.Fault.{Fault}
use Rattle.sgb_requests.specs.declared.faults.Fault.TheVariants as fault
use Rattle.sgb_vec.specs.Results.{IsValue}
use Rattle.sgb_expr.specs.Expression.{Expression}
use Rattle.sgb_values.specs.Values.{IsValueOn, value_of}
use Rattle.sgb_values.proofs.StdinValues.{some_on, value_only}
use Rattle.sgb_levels.specs.Program.{AreLevelsOn}
use Rattle.sgb.specs.Writing.{Effect, IsEnded, IsWritten}
use Rattle.sgb.proofs.Endings.{change_of, effect_of, memory_at_once, refused_at_once}
use Rattle.sgb_vec.proofs.Lists.{range-first, range-none}
use Rattle.sgb_levels.specs.Distances.{AreDistances, IsDistanceIfAny}
use Rattle.sgb_levels.specs.Lines.{IsLevelsAnswer, level_lines}
use Rattle.sgb_levels.specs.inner.Lines.{level_line}
use Rattle.sgb_levels.proofs.Searching.{distances_found}

-- the line of a vertex stands before those after it
pub level_lines-first : (names : List (List ℕ)) (distances : List (Option ℕ)) (v : ℕ) → v < length names
    → level_lines names distances v ≡ level_line names distances v ++ level_lines names distances (v + 1)
unfolding level_lines
level_lines-first names distances v h = ap (flat_map (level_line names distances)) (range-first v (length names) h)

-- no line is left after the last vertex
pub level_lines-none : (names : List (List ℕ)) (distances : List (Option ℕ)) (v : ℕ) → length names ≤ v → level_lines names distances v ≡ []
unfolding level_lines
level_lines-none names distances v h = ap (flat_map (level_line names distances)) (range-none v (length names) h)

-- a vertex has one distance
one_distance : (g : GraphData) (u v : ℕ) (o p : Option ℕ) → IsDistanceIfAny g u v o → IsDistanceIfAny g u v p → o ≡ p
one_distance g u v (Some d) (Some e) x y = let same : d ≡ e = omega (arith, x.least e y.path, y.least d x.path) in ap Some same
one_distance g u v (Some d) None x y = absurd (y d x.path)
one_distance g u v None (Some e) x y = absurd (x e y.path)
one_distance g u v None None x y = refl

-- so there is one list of them
pub distances_only : (g : GraphData) (u : ℕ) (xs ys : List (Option ℕ)) → AreDistances g u xs → AreDistances g u ys → xs ≡ ys
distances_only g u xs ys x y =
    ext_get_or None xs ys (x.size ∙ sym y.size) (λ v below.
    let inside : v < length g.vertices = omega (arith, below, x.size) in
    one_distance g u v (get_or xs v None) (get_or ys v None) (x.each v inside) (y.each v inside))

-- the lines of the distances that were found are the answer
pub written_is : {T S : Type 0} (g : GraphData) (found : List (Option ℕ)) (a : Result (List ℕ) Fault) (out : Effect S) (r : Result T Fault)
    → AreDistances g 0 found → IsWritten (level_lines (names_of g) found 0) out.told r → IsLevelsAnswer (Ok g) a → IsEnded a out r
written_is g found (Ok text) out r are written (distances, also, is) = rw (is, ← distances_only g 0 found distances are also) written
written_is g found (Err f) out r are written answer = absurd answer

-- a graph that is refused is the answer
pub answer_refused : (T : Type 0) {S : Type 0} (v : Result GraphData Panic) (p : Panic) (a : Result (List ℕ) Fault) (s : S) (w : Option (List ℕ)) (failed : Bool) → IsValue v (Err p) → failed ≡ false
    → IsLevelsAnswer v a → IsEnded {T = T} a (effect_of s s (change_of w w failed)) (Err (fault.Panic p))
answer_refused T v p (Ok text) s w failed (inl is) sound answer = absurd (rw is at answer)
answer_refused T v p (Err f) s w failed (inl is) sound answer = refused_at_once T (Err f) s (fault.Panic p) w failed (ap Err (rw is at answer)) sound
answer_refused T v p a s w failed (inr is) sound answer = rw is (memory_at_once T a s w failed sound)

-- so it is with the value of an expression, of which there is one
pub answer_on : (input : List ℕ) (e : Expression) (v : Result GraphData Panic) (a : Result (List ℕ) Fault) → IsValueOn input e v → AreLevelsOn input e a → IsLevelsAnswer v a
answer_on input e v a on (other, is, answer) = subst (λ (x : Result GraphData Panic). IsLevelsAnswer x a) (value_only input e other v is on) answer

-- there is an answer to each value, and to each input
pub value_answered : (v : Result GraphData Panic) → (a : Result (List ℕ) Fault) × IsLevelsAnswer v a
value_answered (Ok g) = let (distances, are) = distances_found g in (Ok (level_lines (names_of g) distances 0), (distances, are, refl))
value_answered (Err p) = (Err (fault.Panic p), refl)

pub input_answered : (e : Expression) (input : List ℕ) → (a : Result (List ℕ) Fault) × AreLevelsOn input e a
input_answered e input =
    let (value, on, _) = some_on (λ stdin. value_of stdin e) input in
    let (a, answer) = value_answered value in
    (a, (value, on, answer))

-- and only one
answer_one : (v : Result GraphData Panic) (a b : Result (List ℕ) Fault) → IsLevelsAnswer v a → IsLevelsAnswer v b → a ≡ b
answer_one (Ok g) (Ok x) (Ok y) (xs, are, is) (ys, also, same) = ap Ok (is ∙ (ap (λ ds. level_lines (names_of g) ds 0) (distances_only g 0 xs ys are also) ∙ sym same))
answer_one (Ok g) (Err f) b is also = absurd is
answer_one (Ok g) (Ok x) (Err f) is also = absurd also
answer_one (Err p) (Ok x) b is also = absurd is
answer_one (Err p) (Err f) (Ok y) is also = absurd also
answer_one (Err p) (Err f) (Err h) is also = ap Err (is ∙ sym also)

pub answers_only : (e : Expression) (input : List ℕ) (a b : Result (List ℕ) Fault) → AreLevelsOn input e a → AreLevelsOn input e b → a ≡ b
answers_only e input a b (v, on, is) also = answer_one v a b is (answer_on input e v b on also)
