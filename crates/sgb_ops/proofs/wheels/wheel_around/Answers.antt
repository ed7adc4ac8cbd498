use Rattle.sgb_vec.proofs.Common.{rules, ◌≡◌, ◌∙◌, ℤ, Bool, Result, Ok, Err, [], ◌∷◌, false, refl, sym, SFits, w64, to_z, of_z, ap, subst, to_z-of_z, err_from_is_err_and}
use Rattle.sgb_vec.specs.Results.{and_then}
use Rattle.sgb_vec.specs.declared.panics.Panic.{Panic}
use Rattle.sgb_graph.specs.Descriptions.{Description, IsAnswerOf}
use Rattle.sgb_graph.specs.Graphs.{GraphData}
use Rattle.sgb_graph.specs.Growth.{with_id}
use Rattle.sgb_graph.specs.Made.{graph_described}
use Rattle.sgb_gen.specs.Boards.{board}
use Rattle.sgb_ops.specs.declared.induced_graphs.entries.Entry.{Entry}
use Rattle.sgb_ops.specs.declared.induced_graphs.entries.Entry.TheVariants as entry
use Rattle.sgb_ops.specs.Boards.{pair_of_vertices}
use Rattle.sgb_ops.specs.Induced.{induced_of}
use Rattle.sgb_ops.specs.Wheel.{accepted_middle, wheel_of}
use Rattle.sgb_ops.specs.inner.Boards.{rim_entry, rim_of_wheel, with_wheel_id}
use Rattle.sgb_ops.specs.inner.Compounds.{wheel_id}
use Rattle.sgb_ops.proofs.AnswersOnward.{changed, onward, refused_onward, wheel_made}
use Rattle.sgb_ops.proofs.RimEntries.{IsRim, rim_known, same_code}
use Rattle.sgb_ops.proofs.wheels.wheel_around.Goals as goal

-- a number as the code keeps it
abbrev kept : ℤ → ℤ
kept n = to_z w64 (of_z w64 n)

-- the last step, and those after the pair, after the rim, and after the middle
abbrev named : ℤ → ℤ → Bool → Description → Result Description Panic
named n n1 d x = Ok (with_wheel_id n n1 d x)

abbrev after_pair : ℤ → ℤ → Bool → Entry → GraphData → GraphData → Result Description Panic
after_pair n n1 d middle rim pair = and_then (induced_of pair (middle ∷ entry.Graph rim ∷ []) false false d) (named n n1 d)

abbrev after_rim : ℤ → ℤ → Bool → Entry → GraphData → Result Description Panic
after_rim n n1 d middle rim = and_then (board (pair_of_vertices d)) (λ p. after_pair n n1 d middle rim (graph_described p))

-- what is known of the rim's entry, by the number as it was given
rim_is : (n : ℤ) (d : Bool) (e : Entry) → SFits w64 n → rim_entry (kept n) d ≡ Ok e → IsRim (board (rim_of_wheel n d)) e
rim_is n d e fits is = rim_known (board (rim_of_wheel n d)) e (subst (λ k. rim_entry k d ≡ Ok e) (to_z-of_z w64 n fits) is)

-- the rim is made too
rim_there : (n n1 : ℤ) (d : Bool) (middle rim : Entry) (result : Result GraphData Panic) → accepted_middle n1 ≡ Ok middle
    → (is : IsRim (board (rim_of_wheel n d)) rim) → IsAnswerOf (after_rim n n1 d middle (graph_described is.description)) result → IsAnswerOf (wheel_of n n1 d) result
rim_there n n1 d middle rim result accepted is answer = rw (accepted, is.made) answer

-- and the pair
pair_there : (n n1 : ℤ) (d : Bool) (middle rim : Entry) (pair : GraphData) (result : Result GraphData Panic) → accepted_middle n1 ≡ Ok middle
    → (is : IsRim (board (rim_of_wheel n d)) rim) → IsAnswerOf (board (pair_of_vertices d)) (Ok pair) → IsAnswerOf (after_pair n n1 d middle (graph_described is.description) pair) result → IsAnswerOf (wheel_of n n1 d) result
pair_there n n1 d middle rim pair result accepted is two answer =
    rim_there n n1 d middle rim result accepted is (onward (board (pair_of_vertices d)) pair (after_pair n n1 d middle (graph_described is.description)) result two answer)

-- nothing that is made of a rim that was made is refused for it
rim_made : (n : ℤ) (d : Bool) (rim : Entry) (result : Result GraphData Panic) → IsRim (board (rim_of_wheel n d)) rim
    → (e : Panic) → board (rim_of_wheel n d) ≡ Err e → result ≡ Err e
rim_made n d rim result is e refused = let none : Ok is.description ≡ Err e = sym is.made ∙ refused in absurd cc

pub returns-clause-answer : goal.returns-clause-answer
returns-clause-answer c =
    let n = c.args.n in
    let n1 = c.args.n1 in
    let d = c.args.directed in
    let pair = c.in_ok-pair.pair in
    let built = c.in_ok-built.built in
    let new = c.set_id.new.self in
    let rim = c.in_ok-rim.rim in
    let is = rim_is n d rim c.ranges.n c.in_ok-rim.ensures.ok in
    let id = c.numbers_id.ensures ∙ (ap (λ k. wheel_id k (kept n1) d) (to_z-of_z w64 n c.ranges.n) ∙ ap (λ k. wheel_id n k d) (to_z-of_z w64 n1 c.ranges.n1)) in
    let made = c.set_id.ensures ∙ ap (λ t. with_id t built) id in
    let both = c.in_ok-entries.ensures.ok ∙ ap (λ e. c.args.middle ∷ e ∷ []) is.entry in
    let answer = subst (λ es. IsAnswerOf (induced_of pair es false false d) (Ok built)) both c.in_ok-built.ensures.answer in
    pair_there n n1 d c.args.middle rim pair (Ok new) c.requires is c.in_ok-pair.ensures
    (changed (induced_of pair (c.args.middle ∷ entry.Graph (graph_described is.description) ∷ []) false false d) built new (with_wheel_id n n1 d) answer (λ x is h. wheel_made n n1 d x built new h made))

pub returns-in_err-built-clause-answer : goal.returns-in_err-built-clause-answer
returns-in_err-built-clause-answer c =
    let n = c.args.n in
    let n1 = c.args.n1 in
    let d = c.args.directed in
    let pair = c.in_ok-pair.pair in
    let e = c.in_err-built.field-0.0 in
    let rim = c.in_ok-rim.rim in
    let is = rim_is n d rim c.ranges.n c.in_ok-rim.ensures.ok in
    let p = err_from_is_err_and c.from_residual-in_err-built.result c.from_residual-in_err-built.ensures.1 in
    let both = c.in_ok-entries.ensures.ok ∙ ap (λ e. c.args.middle ∷ e ∷ []) is.entry in
    let answer = subst (λ es. IsAnswerOf (induced_of pair es false false d) (Err e)) both c.in_err-built.ensures.answer in
    rw (p.1, p.2)
    (pair_there n n1 d c.args.middle rim pair (Err e) c.requires is c.in_ok-pair.ensures
    (refused_onward (induced_of pair (c.args.middle ∷ entry.Graph (graph_described is.description) ∷ []) false false d) e (named n n1 d) answer))

pub returns-in_err-rim-clause-answer : goal.returns-in_err-rim-clause-answer
returns-in_err-rim-clause-answer c = search (rules, err_from_is_err_and, IsAnswerOf, board, rim_of_wheel, to_z-of_z, refused_onward, after_rim, graph_described)

pub returns-in_err-pair-clause-answer : goal.returns-in_err-pair-clause-answer
returns-in_err-pair-clause-answer c =
    let n = c.args.n in
    let n1 = c.args.n1 in
    let d = c.args.directed in
    let middle = c.args.middle in
    let rim = c.in_ok-rim.rim in
    let is = rim_is n d rim c.ranges.n c.in_ok-rim.ensures.ok in
    let e = c.in_err-pair.field-0.0 in
    let p = err_from_is_err_and c.from_residual-in_err-pair.result c.from_residual-in_err-pair.ensures.1 in
    rw (p.1, p.2)
    (rim_there n n1 d middle rim (Err e) c.requires is
    (refused_onward (board (pair_of_vertices d)) e (λ x. after_pair n n1 d middle (graph_described is.description) (graph_described x)) c.in_err-pair.ensures))

-- a rim that was made is not refused
pub returns-clause-refused : goal.returns-clause-refused
returns-clause-refused c = rim_made c.args.n c.args.directed c.in_ok-rim.rim _ (rim_is c.args.n c.args.directed c.in_ok-rim.rim c.ranges.n c.in_ok-rim.ensures.ok)

pub returns-in_err-built-clause-refused : goal.returns-in_err-built-clause-refused
returns-in_err-built-clause-refused c = rim_made c.args.n c.args.directed c.in_ok-rim.rim _ (rim_is c.args.n c.args.directed c.in_ok-rim.rim c.ranges.n c.in_ok-rim.ensures.ok)

pub returns-in_err-pair-clause-refused : goal.returns-in_err-pair-clause-refused
returns-in_err-pair-clause-refused c = rim_made c.args.n c.args.directed c.in_ok-rim.rim _ (rim_is c.args.n c.args.directed c.in_ok-rim.rim c.ranges.n c.in_ok-rim.ensures.ok)

pub returns-in_err-entries-clause-refused : goal.returns-in_err-entries-clause-refused
returns-in_err-entries-clause-refused c = rim_made c.args.n c.args.directed c.in_ok-rim.rim _ (rim_is c.args.n c.args.directed c.in_ok-rim.rim c.ranges.n c.in_ok-rim.ensures.ok)

pub returns-in_err-rim-clause-refused : goal.returns-in_err-rim-clause-refused
returns-in_err-rim-clause-refused c = λ e is.
    let p = err_from_is_err_and c.from_residual.result c.from_residual.ensures.1 in
    rw (p.1, p.2)
    (ap (λ f. Err f)
    (same_code c.in_err-rim.field-0.0 e (Err c.in_err-rim.field-0.0) refl
    (c.in_err-rim.ensures.refused e (ap (λ k. board (rim_of_wheel k c.args.directed)) (to_z-of_z w64 c.args.n c.ranges.n) ∙ is))))
