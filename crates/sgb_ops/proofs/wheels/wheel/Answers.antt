use Rattle.sgb_vec.proofs.Common.{rules, ◌≡◌, ◌∙◌, ℤ, Bool, Result, Ok, Err, SFits, w64, to_z, of_z, refl, sym, ap, to_z-of_z, err_from_is_err_and}
use Rattle.sgb_vec.specs.Results.{and_then}
use Rattle.sgb_vec.specs.declared.panics.Panic.{Panic}
use Rattle.sgb_graph.specs.Descriptions.{IsAnswerOf}
use Rattle.sgb_graph.specs.Graphs.{GraphData}
use Rattle.sgb_gen.specs.Boards.{board}
use Rattle.sgb_ops.specs.declared.induced_graphs.entries.Entry.{Entry}
use Rattle.sgb_ops.specs.Wheel.{accepted_middle, accepted_rim, wheel_of}
use Rattle.sgb_ops.specs.inner.Boards.{rim_of_wheel}
use Rattle.sgb_ops.proofs.Refusals.{same_refusal}
use Rattle.sgb_ops.proofs.wheels.wheel.Goals as goal

-- a number as the code keeps it
read : (n1 : ℤ) → SFits w64 n1 → accepted_middle (to_z w64 (of_z w64 n1)) ≡ accepted_middle n1
read n1 fits = ap accepted_middle (to_z-of_z w64 n1 fits)

pub wheel_around-requires : goal.wheel_around-requires
wheel_around-requires c = c.in_ok-middle.ensures.ok

pub returns-clause-answer : goal.returns-clause-answer
returns-clause-answer c = search (rules, IsAnswerOf, wheel_of, to_z-of_z, to_z, of_z)

-- after the middle the rim may be refused
after_middle : (n n1 : ℤ) (d : Bool) (middle : Entry) (result : Result GraphData Panic) → SFits w64 n → SFits w64 n1 → accepted_middle (to_z w64 (of_z w64 n1)) ≡ Ok middle
    → ((e : Panic) → board (rim_of_wheel (to_z w64 (of_z w64 n)) d) ≡ Err e → result ≡ Err e) → (e : Panic) → accepted_rim n n1 d ≡ Err e → result ≡ Err e
after_middle n n1 d middle result fits fits1 accepted by e is =
    let middle_is = sym (read n1 fits1) ∙ accepted in
    by e (ap (λ k. board (rim_of_wheel k d)) (to_z-of_z w64 n fits) ∙ (sym (ap (λ (r : Result Entry Panic). and_then r (λ m. board (rim_of_wheel n d))) middle_is) ∙ is))

-- and where that is refused, it is
no_middle : (n n1 : ℤ) (d : Bool) (f : Panic) → SFits w64 n1 → accepted_middle (to_z w64 (of_z w64 n1)) ≡ Err f → accepted_rim n n1 d ≡ Err f
no_middle n n1 d f fits refused = ap (λ (r : Result Entry Panic). and_then r (λ m. board (rim_of_wheel n d))) (sym (read n1 fits) ∙ refused)

pub returns-clause-refused : goal.returns-clause-refused
returns-clause-refused c =
    after_middle c.args.n c.args.n1 c.args.directed c.in_ok-middle.middle _ c.ranges.n c.ranges.n1 c.in_ok-middle.ensures.ok c.wheel_around.ensures.refused

pub returns-in_err-middle-clause-refused : goal.returns-in_err-middle-clause-refused
returns-in_err-middle-clause-refused c = λ e is.
    let p = err_from_is_err_and c.from_residual.result c.from_residual.ensures.1 in
    same_refusal (accepted_rim c.args.n c.args.n1 c.args.directed) c.in_err-middle.field-0.0 e _
    (no_middle c.args.n c.args.n1 c.args.directed _ c.ranges.n1 c.in_err-middle.ensures.refused) (rw (p.1, p.2) refl) is
