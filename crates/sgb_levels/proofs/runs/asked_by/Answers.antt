use Rattle.std.proofs.Common.{Global, String, ◌≡◌, ◌<◌, ◌∙◌, ℕ, List, [], ◌∷◌, Result, length, map, get_or, ap, subst, arith}
use Rattle.std.specs.String.{string_bytes}
use Rattle.sgb_expr.specs.declared.expressions.Expr.{Expr}
use Rattle.sgb_requests.specs.Reading.{IsReadAs}
use Rattle.sgb_requests.specs.declared.faults.Fault.{Fault}
use Rattle.sgb_levels.specs.Program.{AskFor}
use Rattle.sgb_levels.proofs.runs.asked_by.Goals as goal

-- two words ask for what the second one is read as
second_asks : (words : List (String Global)) (text : String Global) (bytes : List ℕ) (read : Result Expr Fault) → 1 < length words → length words < 3
    → text ≡ get_or words 1 text → bytes ≡ string_bytes text → IsReadAs bytes read → AskFor (map string_bytes words) read
second_asks (a ∷ b ∷ []) text bytes read some few is same h = subst (λ (t : List ℕ). IsReadAs t read) (same ∙ ap string_bytes is) h
second_asks _ text bytes read some few is same h = absurd (omega arith)

pub returns-in-len2 : goal.returns-in-len2
returns-in-len2 c =
    second_asks c.args.words.now c.text-item.result c.as_bytes.result.now c.parse_expr.result (omega (arith, c.in-len2.len_at_least)) c.in-len2.len_below
    c.text-item.is c.as_bytes.ensures.value c.parse_expr.ensures.read
