use Rattle.std.proofs.Common.{ℕ, List, ◌++◌, Ok, option_map, refl, sym, rules, ◌∙◌}
use Rattle.sgb_graph.specs.Made.{graph_described}
use Rattle.sgb_graph.specs.Vertices.{names_of}
use Rattle.sgb_gen.specs.VectorGraphs.{described_by}
use Rattle.sgb.specs.Outcomes.{head_for, left_out}
use Rattle.sgb.specs.Texts.{blocks, head}
use Rattle.sgb.proofs.CertainAnswers.{exit_certain, never, place_other, room_alone, whole_asked, write_certain}
use Rattle.sgb.proofs.Endings.{ended_after, exit_ended, refused_after}
use Rattle.sgb.proofs.ResumedListings.{blocks_after, left_out_of_graph, none_left, some_member}
use Rattle.sgb.proofs.writing.list_answers.ListAnswerVisit.visit.Goals as goal

pub returns-in_err-start : goal.returns-in_err-start
returns-in_err-start g c =
    let nowhere = left_out_of_graph (g.L.Listed.graph c.args.listed.now) c.args.self.resume.now _ (rw c.family.ensures.members at c.in_err-start.ensures) in
    let nowhere_certain = exit_certain _ _ c.from_residual.ensures.1 (place_other _ c.args.self.resume.now _ (sym nowhere)) in (
      search (rules, nowhere, exit_ended, refused_after, left_out, head_for, head, blocks, names_of, graph_described),
      λ past. nowhere_certain,
      λ same. nowhere_certain,
      λ same. never _ _ nowhere_certain,
      λ other. never _ _ nowhere_certain,
    )

pub list_vectors-requires : goal.list_vectors-requires
list_vectors-requires g c =
    let member = some_member c.slice_of.result (λ x. x.now) _ _ _ c.family.ensures.members c.slice_of.ensures c.in_ok-start.ensures.0 in
    λ k. ((refl, tt), (member, c.requires))

pub returns : goal.returns
returns g c =
    let vectors = g.L.Listed.graph c.args.listed.now in
    let graph = graph_described (described_by vectors) in
    let text : ℕ → List ℕ = λ k. head_for c.args.self.resume.now (head graph) ++ blocks graph k in
    let begins = rw c.family.ensures.members at c.in_ok-start.ensures.1 in
    let from = left_out_of_graph vectors c.args.self.resume.now (Ok begins.0) begins.1 in
    let after = blocks_after vectors begins.0 (option_map (λ vector. vector.items) c.in_ok-start.start) (option_map (λ x. x.now) c.slice_of.result) begins.2 c.slice_of.ensures in (
      ended_after (left_out (names_of graph) c.args.self.resume.now) begins.0 text _ _ from (rw (after, sym (c.has_head.ensures.head graph)) c.list_vectors.ensures.written),
      λ past.
          let (resumed, none) = none_left vectors c.args.self.resume.now begins.0 (option_map (λ vector. vector.items) c.in_ok-start.start) (option_map (λ x. x.now) c.slice_of.result) from begins.2 c.slice_of.ensures past in
          c.list_vectors.ensures.end (c.has_head.ensures.resumed resumed) none,
      λ same. write_certain _ (c.list_vectors.ensures.subsets same),
      λ same. whole_asked _ c.args.self.resume.now _ _ c.has_head.ensures.resumed (c.list_vectors.ensures.simplex same),
      λ other. room_alone _ _ (c.list_vectors.ensures.untouched other),
    )
