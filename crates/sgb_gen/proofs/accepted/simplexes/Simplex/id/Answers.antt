use Rattle.std.proofs.Common.{◌≡◌, ◌++◌, codes, ap, ◌∙◌}
use Rattle.sgb_graph.specs.IdTexts.{numbers_text}
use Rattle.sgb_gen.specs.Simplexes.{simplex_id}
use Rattle.sgb_graph.specs.IdTexts.{flag_text}
use Rattle.sgb_gen.proofs.WrittenIds.{simplex_id-written}
use Rattle.sgb_gen.proofs.accepted.simplexes.Simplex.id.Goals as goal

pub returns : goal.returns
returns c =
    let s = c.self.inside in
    let params : c.push_numbers.new.self ≡ codes "simplex(" ++ numbers_text s.shape.params =
    c.push_numbers.ensures.bytes ∙ ap (λ t. t ++ numbers_text c.params.result.now) (c.push_text.ensures ∙ ap (λ t. t ++ codes "simplex(") c.new-id.ensures)
    ∙ ap (λ ns. codes "simplex(" ++ numbers_text ns) c.params.ensures in
    c.id.ensures ∙ c.push_text-2.ensures ∙ ap (λ t. t ++ codes ")") c.push_flag.ensures ∙ ap (λ t. (t ++ flag_text s.directed) ++ codes ")") params
    ∙ simplex_id-written (record { params = s.shape.params; sum = s.family; directed = s.directed })
    ∙ ap simplex_id c.self.view_is
