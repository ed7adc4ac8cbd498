use Rattle.sgb_vec.proofs.Common.{rules, ◌≡◌, ◌++◌, ◌∙◌, ℕ, List, [], ◌∷◌, arith, ap, decimal, subst, sym}
use Rattle.sgb_vec.specs.Names.{IsText, name_of_vector}
use Rattle.sgb_vec.proofs.VectorNames.{IsText-name_of_vector, name_of_one}
use Rattle.sgb_vec.proofs.texts.name_of_number.Goals as goal

-- what was put after nothing
named : (x : ℕ) (none text : List ℕ) → none ≡ [] → text ≡ none ++ decimal x → text ≡ name_of_vector (x ∷ [])
named x none text empty put = put ∙ (ap (λ t. t ++ decimal x) empty ∙ sym (name_of_one x))

pub of_few-requires : goal.of_few-requires
of_few-requires c =
    subst IsText (sym (named c.args.number _ _ c.new-text.ensures c.push_count.ensures.text))
    (IsText-name_of_vector (c.args.number ∷ []) (omega arith) (search (rules, arith)))

pub returns : goal.returns
returns c = c.of_few.ensures ∙ named c.args.number _ _ c.new-text.ensures c.push_count.ensures.text
