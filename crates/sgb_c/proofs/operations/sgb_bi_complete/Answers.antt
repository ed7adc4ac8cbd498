use Rattle.std.proofs.Common.{rules, ◌≡◌, ◌∙◌, w64, to_z, of_z, sym}
use Rattle.std.proofs.lemmas.Int.{to_z-of_z}
use Rattle.sgb_ops.specs.BiComplete.{bi_complete_of}
use Rattle.sgb_c.proofs.MadeGraphs.{put_made}
use Rattle.sgb_c.proofs.operations.sgb_bi_complete.Goals as goal

pub returns-clause-made : goal.returns-clause-made
returns-clause-made c =
    let first : to_z w64 (of_z w64 c.args.n1) ≡ c.args.n1 = to_z-of_z w64 c.args.n1 (search rules) in
    let second : to_z w64 (of_z w64 c.args.n2) ≡ c.args.n2 = to_z-of_z w64 c.args.n2 (search rules) in
    let answered = rw (first, second) at c.bi_complete-graph.ensures.answer in
    put_made (bi_complete_of c.args.n1 c.args.n2 c.args.directed) c.bi_complete-graph.result c.args.made.now.held.value c.put_made.new.self.held.value c.put_made.result (sym c.is_open.ensures ∙ c.if-is_open.false) answered c.put_made.ensures
