use Rattle.std.proofs.Common.{rules, ◌≡◌, ◌∙◌, w64, to_z, of_z, sym}
use Rattle.std.proofs.lemmas.Int.{to_z-of_z}
use Rattle.sgb_ops.specs.Wheel.{wheel_of}
use Rattle.sgb_c.proofs.MadeGraphs.{put_made}
use Rattle.sgb_c.proofs.operations.sgb_wheel.Goals as goal

pub returns-clause-made : goal.returns-clause-made
returns-clause-made c =
    let first : to_z w64 (of_z w64 c.args.n) ≡ c.args.n = to_z-of_z w64 c.args.n (search rules) in
    let second : to_z w64 (of_z w64 c.args.n1) ≡ c.args.n1 = to_z-of_z w64 c.args.n1 (search rules) in
    let answered = rw (first, second) at c.wheel-graph.ensures.answer in
    put_made (wheel_of c.args.n c.args.n1 c.args.directed) c.wheel-graph.result c.args.made.now.held.value c.put_made.new.self.held.value c.put_made.result (sym c.is_open.ensures ∙ c.if-is_open.false) answered c.put_made.ensures
