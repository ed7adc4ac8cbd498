use Rattle.std.proofs.Common.{◌≡◌, ◌-◌, ◌++◌, ◌∙◌, ap, ap₂, arith, length, replicate, rules, take, w64}
use Rattle.std.specs.List.{slice_range}
use Rattle.std.proofs.lemmas.Int.{to_z-of_z}
use Rattle.sgb_arrays.proofs.PackedLengths.{cut_both, cut_others, cut_same}
use Rattle.sgb_arrays.proofs.packed_rows.Lengths.put.Goals as goal

pub returns-then-end-self : goal.returns-then-end-self
returns-then-end-self c =
    let l = c.args.self.now in
    let len = to_z-of_z w64 l.len (search rules) in
    c.fill.ensures.after (λ y is. is)
    ∙ (ap₂ (λ n z. replicate n z) c.requires.lengths len ∙ cut_same l.same c.args.begin c.args.end l.len l.others.items c.requires.order (omega (arith, c.if-end-self.true)))

pub returns-then-begin-self : goal.returns-then-begin-self
returns-then-begin-self c =
    let l = c.args.self.now in
    c.copy_from_slice.ensures.after
    ∙ (ap (λ xs. slice_range xs (c.args.begin - l.same) (c.args.end - l.same)) c.as_slice-others.ensures.value
    ∙ cut_others l.same c.args.begin c.args.end l.len l.others.items (omega (arith, c.if-begin-self.true)) c.requires.order)

pub returns : goal.returns
returns c =
    let l = c.args.self.now in
    let len = to_z-of_z w64 l.len (search rules) in
    let first = c.fill-2.ensures.after (λ y is. is) ∙ ap₂ (λ n z. replicate n z) c.split_at_mut-first.ensures.front_len len in
    let rest = c.copy_from_slice-2.ensures.after ∙ ap (λ xs. take (c.args.end - l.same) xs) c.as_slice-others.ensures.value in
    ap₂ (λ xs ys. xs ++ ys) first rest ∙ cut_both l.same c.args.begin c.args.end l.len l.others.items (omega (arith, c.if-begin-self.false)) (omega (arith, c.if-end-self.false))
