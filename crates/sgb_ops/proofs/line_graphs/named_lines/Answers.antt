use Rattle.sgb_vec.proofs.Common.{◌+◌, ◌∷◌, ◌∙◌, [], drop, sym, ap, arith, drop_all, drop_more}
use Rattle.sgb_ops.specs.inner.Lines.{names_of_lines, no_line}
use Rattle.sgb_ops.specs.inner.Sources.{names_held}
use Rattle.sgb_ops.proofs.PlainLists.{part_more, parts_all}
use Rattle.sgb_ops.proofs.line_graphs.named_lines.Goals as goal

pub loop-line-preserved : goal.loop-line-preserved
loop-line-preserved c =
    let names = names_of_lines (names_held c.args.ends.now) c.args.directed in
    let lines = c.args.lines.now in
    let i = c.loop-line.line-index in
    let rest = drop (i + 1) lines in
    part_more c.loop-line.names _ (c.in_ok-name.name ∷ []) (names rest) (names (drop i lines)) _ (ap names (drop_more lines i no_line (omega arith)) ∙ ap (λ n. n ∷ names rest) (sym c.in_ok-name.ensures.ok)) c.loop-line.invariant c.in-Ok.ensures.ok

pub returns-clause-ok : goal.returns-clause-ok
returns-clause-ok c =
    parts_all c.loop-line.names _ _ (ap (names_of_lines (names_held c.args.ends.now) c.args.directed) (drop_all c.loop-line.line-index c.args.lines.now (omega arith))) c.loop-line.invariant
