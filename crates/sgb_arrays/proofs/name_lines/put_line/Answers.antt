use Rattle.std.proofs.Common.{◌∙◌, ◌+◌, ◌∷◌, [], length, slice_set, sym, ap}
use Rattle.sgb_arrays.proofs.PutValues.{put_from-append}
use Rattle.sgb_arrays.proofs.name_lines.put_line.Goals as goal

pub returns : goal.returns
returns c =
    ap (λ xs. slice_set xs (c.args.at + length c.args.name.now) 10) c.put_bytes.ensures ∙ sym (put_from-append c.args.at c.args.name.now (10 ∷ []) c.args.lines.now)
