use Rattle.sgb_vec.proofs.Common.{◌≡◌, ◌<◌, ◌≤◌, inl, inr, refl, arith, cases_lt, lt-ltb, le-ltb}
use Rattle.sgb_vec.proofs.VectorNames.{name_of_none, length-name_of_vector-next}
use Rattle.sgb_vec.proofs.texts.name_len.Goals as goal

pub loop-place-init : goal.loop-place-init
loop-place-init c = rw name_of_none (refl, omega arith)

pub loop-place-preserved : goal.loop-place-preserved
loop-place-preserved c =
    let i = c.loop-place.place in
    let one : 0 < i → c.from.result ≡ 1 = λ some. rw (c.from.ensures, lt-ltb 0 i some) refl in
    let none : i ≤ 0 → c.from.result ≡ 0 = λ first. rw (c.from.ensures, le-ltb 0 i first) refl in
    let next = length-name_of_vector-next c.args.vector.now i c.from.result one none (omega arith) in
    let dots : c.from.result ≤ 1 = elim (cases_lt 0 i) [ inl some ↦ omega (arith, one some) | inr first ↦ omega (arith, none first) ] in
    (omega (arith, next), omega (arith, dots))
