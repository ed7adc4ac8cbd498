use Rattle.std.proofs.Common.{length, sym, ◌∙◌, ap, arith, rules}
use Rattle.std.proofs.lemmas.Option.{get_or_from_slice_get, slice_get_within}
use Rattle.sgb_gen.specs.inner.Strides.{stride_of}
use Rattle.sgb_gen.proofs.StrideTips.{strides_more}
use Rattle.sgb_gen.proofs.accepted.boards.strides.strides_in.Goals as goal

pub loop-k-preserved : goal.loop-k-preserved
loop-k-preserved c =
    strides_more c.args.sizes.now c.args.table.now c.loop-k.k c.at.result.now c.in_ok-stride.stride c.loop-k.strides.items c.push.new.self.items c.at.ensures c.loop-k.invariant
    (c.in_ok-stride.ensures ∙ ap (stride_of c.args.sizes.now) (c.entries.ensures ∙ c.ahead.ensures)) (search rules)

pub at-requires : goal.at-requires
at-requires c = omega (arith, c.len-k-end.ensures)

pub stride_by-requires : goal.stride_by-requires
stride_by-requires c =
    let ts = c.args.table.now in
    let t = c.at.result.now in
    ap length (c.entries.ensures ∙ c.ahead.ensures ∙ sym (get_or_from_slice_get ts c.loop-k.k t t c.at.ensures)) ∙ c.requires c.loop-k.k t (slice_get_within ts c.loop-k.k t c.at.ensures)
