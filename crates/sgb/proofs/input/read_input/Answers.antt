use Rattle.std.proofs.Common.{◌+◌, length, length-append, ap, arith, ◌≡◌, ◌≤◌, ◌-◌, ◌++◌, ℕ, List, take, Option, IfSome, append-nil}
use Rattle.sgb_values.specs.Values.{most_input}
use Rattle.sgb.proofs.input.read_input.Goals as goal
use Rattle.std.proofs.lemmas.List.{take_all}
use Rattle.std.proofs.Math.Seq.{take-append_seam}
use Rattle.std.proofs.KnownBytes.{Consumes-trans}
use Rattle.std.specs.Io.KnownBytes.{Consumes, IsAtEnd}
use Rattle.sgb.specs.Inputs.{LosesAtMost}

-- where it is at its end after some more
kept_end : (a b c : Option (List ℕ)) (kept bs new : List ℕ) (n : ℕ) → Consumes a b kept → Consumes b c bs → IsAtEnd c → new ≡ kept ++ bs → length new ≤ n
    → IfSome a (λ input. new ≡ take n input)
kept_end a b c kept bs new n lost more end grown within = grind (arith, append-nil, take_all)

-- or as much as is to be kept
kept_full : (a b : Option (List ℕ)) (kept : List ℕ) (n : ℕ) → Consumes a b kept → length kept ≡ n → IfSome a (λ input. kept ≡ take n input)
kept_full a b kept n lost all = grind (arith, take-append_seam)

-- it loses some bytes, and then no more than others
loses_more : (a b c : Option (List ℕ)) (kept : List ℕ) (n : ℕ) → Consumes a b kept → length kept ≤ n → LosesAtMost (n - length kept) b c → LosesAtMost n a c
loses_more a b c kept n lost within more = grind (arith, Consumes-trans, length-append)

pub returns-in_err-count-clause-bounded : goal.returns-in_err-count-clause-bounded
returns-in_err-count-clause-bounded g c =
    let (lost, within, _, _) = c.loop-buffer.invariant in
    loses_more _ _ _ c.loop-buffer.kept.items (most_input + 1) lost within c.in_err-count.ensures.bounded

pub returns-then-count-eq0-clause-kept : goal.returns-then-count-eq0-clause-kept
returns-then-count-eq0-clause-kept g c =
    let (lost, within, _, _) = c.loop-buffer.invariant in
    let (bs, grown, size, more) = c.in_ok-count.ensures.kept in
    kept_end _ _ _ c.loop-buffer.kept.items bs c.read_more.new.kept.items (most_input + 1) lost more (c.in_ok-count.ensures.end c.if-count-eq0.true) grown
    (omega (arith, c.in_ok-count.ensures.most, ap length grown, length-append c.loop-buffer.kept.items bs, size))

pub returns-clause-kept : goal.returns-clause-kept
returns-clause-kept g c =
    let (lost, within, _, _) = c.loop-buffer.invariant in
    kept_full _ _ c.loop-buffer.kept.items (most_input + 1) lost (omega (arith, within, c.loop-buffer-test.false, c.len.ensures))
