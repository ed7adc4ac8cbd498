use Rattle.std.proofs.Common.{rules, ◌≡◌, ◌≤◌, ℕ, ℤ, Bool, true, false, List, [], ◌++◌, length, codes, refl, ap, ◌∙◌, arith}
use Rattle.std.proofs.lemmas.List.{length-append}
use Rattle.sgb_graph.proofs.IdLemmas.{length-small_numbers}
use Rattle.sgb_graph.specs.IdTexts.{numbers_text}
use Rattle.sgb_graph.specs.IdTexts.{flag_text}
use Rattle.sgb_graph.specs.IdTexts.{hexadecimal_text}
use Rattle.sgb_gen.specs.Subsets.{subsets_id}
use Rattle.sgb_gen.specs.inner.Subsets.{AreSmall}
use Rattle.sgb_gen.proofs.WrittenIds.{subsets_id-written}
use Rattle.sgb_gen.proofs.accepted.subsets.Subsets.id.Goals as goal

pub returns : goal.returns
returns c =
    let s = c.self.inside in
    let params : c.push_numbers.new.self ≡ codes "subsets(" ++ numbers_text s.shape.params =
    c.push_numbers.ensures.bytes ∙ ap (λ t. t ++ numbers_text c.params.result.now) (c.push_text.ensures ∙ ap (λ t. t ++ codes "subsets(") c.new-id.ensures)
    ∙ ap (λ ns. codes "subsets(" ++ numbers_text ns) c.params.ensures in
    let bits : c.push_hexadecimal.new.self ≡ (codes "subsets(" ++ numbers_text s.shape.params) ++ hexadecimal_text s.size_bits =
    c.push_hexadecimal.ensures.bytes ∙ ap (λ t. t ++ hexadecimal_text s.size_bits) params in
    let comma : c.push_text-2.new.self ≡ ((codes "subsets(" ++ numbers_text s.shape.params) ++ hexadecimal_text s.size_bits) ++ codes "," =
    c.push_text-2.ensures ∙ ap (λ t. t ++ codes ",") bits in
    c.id.ensures ∙ c.push_text-3.ensures ∙ ap (λ t. t ++ codes ")") c.push_flag.ensures ∙ ap (λ t. (t ++ flag_text s.directed) ++ codes ")") comma
    ∙ subsets_id-written (record { params = s.shape.params; sum = s.family; size_bits = s.size_bits; directed = s.directed })
    ∙ ap subsets_id c.self.view_is

-- a flag has one byte
length-flag : (flag : Bool) → length (flag_text flag) ≡ 1
length-flag true = refl
length-flag false = refl

-- after the name and the six numbers there are at most 80 bytes
numbers_short : (new start pushed : List ℕ) (params read : List ℤ) → new ≡ [] → start ≡ new ++ codes "subsets(" → pushed ≡ start ++ numbers_text read → read ≡ params → length params ≡ 6 → AreSmall params → length pushed ≤ 80
numbers_short new start pushed params read none begun put same six small = grind (arith, length-small_numbers, length-append, codes)

pub push_hexadecimal-requires : goal.push_hexadecimal-requires
push_hexadecimal-requires c = omega (arith, numbers_short _ _ _ _ _ c.new-id.ensures c.push_text.ensures c.push_numbers.ensures.bytes c.params.ensures c.self.invariant.1.parameters c.self.invariant.2)

pub push_text-requires-2-clause-room : goal.push_text-requires-2-clause-room
push_text-requires-2-clause-room c = search (rules, numbers_short)

pub push_flag-requires : goal.push_flag-requires
push_flag-requires c = search (rules, numbers_short, length-append)

pub push_text-requires-3-clause-room : goal.push_text-requires-3-clause-room
push_text-requires-3-clause-room c = search (rules, numbers_short, length-append, length-flag)
