use Rattle.std.proofs.Common.{◌≡◌, ◌++◌, [], ◌∷◌, ℤ, codes, to_z, of_z, w64, ap, ◌∙◌, rules}
use Rattle.std.proofs.lemmas.Int.{to_z-of_z}
use Rattle.sgb_graph.specs.IdTexts.{numbers_text}
use Rattle.sgb_gen.specs.Boards.{board_id}
use Rattle.sgb_graph.specs.IdTexts.{flag_text}
use Rattle.sgb_gen.proofs.WrittenIds.{board_id-written}
use Rattle.sgb_gen.proofs.accepted.boards.Board.id.Goals as goal

pub returns : goal.returns
returns c =
    let b = c.self.inside in
    let read : ℤ → ℤ = λ n. to_z w64 (of_z w64 n) in
    let piece : read b.piece ≡ b.piece = to_z-of_z w64 b.piece (search rules) in
    let wrap : read b.wrap ≡ b.wrap = to_z-of_z w64 b.wrap (search rules) in
    let params : c.push_numbers.new.self ≡ codes "board(" ++ numbers_text b.shape.params =
    c.push_numbers.ensures.bytes ∙ ap (λ t. t ++ numbers_text c.params.result.now) (c.push_text.ensures ∙ ap (λ t. t ++ codes "board(") c.new-id.ensures)
    ∙ ap (λ ns. codes "board(" ++ numbers_text ns) c.params.ensures in
    let numbers : c.push_numbers-2.new.self ≡ (codes "board(" ++ numbers_text b.shape.params) ++ numbers_text (b.piece ∷ b.wrap ∷ []) =
    c.push_numbers-2.ensures.bytes ∙ ap (λ t. t ++ numbers_text (read b.piece ∷ read b.wrap ∷ [])) params
    ∙ ap (λ p. (codes "board(" ++ numbers_text b.shape.params) ++ numbers_text (p ∷ read b.wrap ∷ [])) piece
    ∙ ap (λ w. (codes "board(" ++ numbers_text b.shape.params) ++ numbers_text (b.piece ∷ w ∷ [])) wrap in
    c.id.ensures ∙ c.push_text-2.ensures ∙ ap (λ t. t ++ codes ")") c.push_flag.ensures ∙ ap (λ t. (t ++ flag_text b.directed) ++ codes ")") numbers
    ∙ board_id-written (record { params = b.shape.params; sizes = b.family; piece = b.piece; wrap = b.wrap; directed = b.directed })
    ∙ ap board_id c.self.view_is
