use Rattle.std.proofs.Common.{◌≡◌, ◌+◌, ◌-◌, ◌++◌, length, take, drop, replicate, sym, ap, ◌∙◌, arith}
use borrow.Rule.Slice.PartMut.{mid_of, put_mid, same_len_mid}
use Rattle.std.proofs.lemmas.List.{length-drop, length-take, take_all}
use Rattle.std.proofs.lemmas.Slice.{take-put_mid}
use Rattle.sgb_gen.proofs.accepted.subsets.last_entries.put_zeros.Goals as goal

pub returns : goal.returns
returns c =
    let tip = c.args.tip.now in
    let a = c.args.start in
    let k = length tip - a in
    let new = c.fill.new.self in
    let long : length (mid_of a k tip) ≡ k = length-take k (drop a tip) ∙ omega (arith, length-drop a tip) in
    let count : length new ≡ k = c.fill.ensures.len ∙ long in
    sym (take_all (a + length new) (put_mid a k tip new) (omega (arith, same_len_mid a k tip new c.fill.ensures.len, count, c.requires)))
    ∙ take-put_mid a k tip new (a + length new) (omega arith) c.requires
    ∙ ap (λ l. take a tip ++ l) (c.fill.ensures.after (λ y e. e) ∙ ap (λ n. replicate n 0) long)
