use Rattle.std.proofs.Common.{◌≢◌, ◌≤◌, length, get_or, MatchOption, subst, sym, rules, arith, Option, ℕ}
use Rattle.sgb_text.specs.Numbers.{IsNumber}
use Rattle.sgb_expr.specs.Numbers.{most_digits}
use Rattle.sgb_requests.proofs.Counts.{count_read}
use Rattle.sgb_requests.proofs.command_line.count_of.Goals as goal

pub returns : goal.returns
returns c =
    let text = c.args.text.now in
    let short : length text ≤ 18 = omega arith in
    let plain : get_or text 0 0 ≢ 43 = search rules in
    subst (λ (o : Option ℕ). MatchOption o ((k : ℕ) → IsNumber 10 most_digits text k → ⊥) (IsNumber 10 most_digits text)) (sym c.ok.ensures.value)
    (count_read text _ c.parse.ensures.value.0 short plain)
