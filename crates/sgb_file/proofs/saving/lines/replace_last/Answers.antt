use Rattle.sgb_vec.proofs.Common.{◌≡◌, ◌∙◌, length, ap, arith, drop_all, drop_more, length-take-le}
use Rattle.sgb_file.proofs.saving.lines.replace_last.Goals as goal

pub push_byte-requires : goal.push_byte-requires
push_byte-requires c =
    let short : length c.cut.new.self ≡ 78 = ap length c.cut.ensures ∙ length-take-le 78 c.args.line.now (omega (arith, c.requires)) in
    (omega arith, omega (arith, short))

pub returns-clause-last : goal.returns-clause-last
returns-clause-last c = grind (arith, drop_more c.args.line.now 78 0, drop_all 79 c.args.line.now)
