use Rattle.sgb_vec.proofs.Common.{rules, ◌∙◌, ◌<◌, ℕ, All, All-map, length, subst, sym}
use Rattle.sgb_graph.specs.Graphs.{chain_of}
use Rattle.sgb_ops.proofs.CopiedArcs.{among_tips, is_among}
use Rattle.sgb_ops.proofs.complements.mark_arcs.Goals as goal

pub mark_tips-requires : goal.mark_tips-requires
mark_tips-requires c =
    let chain = chain_of c.args.graph.now c.args.u in
    let within = subst (λ (k : ℕ). All (λ l. l.tip < k) chain) (sym c.requires.marks) (c.requires.tips c.args.u c.requires.vertex) in
    subst (All (λ t. t < length c.args.marks.now)) (sym (c.deref.ensures.value ∙ c.in_ok-take_tips.ensures.ok)) (All-map (λ t. t < length c.args.marks.now) (λ l. l.tip) chain within)

pub returns-clause-ok : goal.returns-clause-ok
returns-clause-ok c = search (rules, among_tips, is_among, c.mark_tips.ensures)
