use Rattle.std.proofs.Common.{◌≡◌, ◌-◌, ℕ, List, length, drop, Ok, Err, sym, ◌∙◌, ap, arith, length-drop, take_all}
use Rattle.sgb_text.proofs.Words.{fixed_parts, fixed_reads}
use Rattle.sgb_expr.proofs.numbers.fixed.Goals as goal

pub returns-then-same-bytes : goal.returns-then-same-bytes
returns-then-same-bytes c =
    let is = c.common_prefix-same.ensures.value in
    fixed_parts c.args.bytes.now c.args.text.now (omega (arith, is, c.if-same-bytes.true))
    ∙ ap (λ (n : ℕ). Err (length c.args.text.now - n)) (sym is)

pub returns : goal.returns
returns c =
    let is = c.common_prefix-same.ensures.value in
    let all : c.common_prefix-same.result ≡ length c.args.bytes.now = omega (arith, c.common_prefix-same.ensures.within_left, c.if-same-bytes.false) in
    let rest = drop c.common_prefix-same.result c.args.text.now in
    fixed_reads c.args.bytes.now c.args.text.now (omega (arith, is, all))
    ∙ ap (λ (n : ℕ). Ok (drop n c.args.text.now)) (sym all)
    ∙ ap (λ (u : List ℕ). Ok u) (sym (take_all (length c.args.text.now - c.common_prefix-same.result) rest (omega (arith, length-drop c.common_prefix-same.result c.args.text.now))))
