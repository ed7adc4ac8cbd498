use Rattle.std.proofs.Common.{◌≡◌, ℕ, ◌-◌, ◌≤◌, List, length, take, slice_set, slice_index, slice_index_or, ap, sym, ◌∙◌, arith, length-set}
use Rattle.std.specs.List.{refill}
use Rattle.std.proofs.lemmas.List.{get_or-set_other, take_all}
use Rattle.sgb_gen.specs.inner.SimplexCounts.{less_at}
use Rattle.sgb_moves.proofs.DisplacementWalk.{refill-all}
use Rattle.sgb_gen.proofs.accepted.simplexes.counts.lowered.Goals as goal

-- the bounds, once all are copied
copied : (d less bounds : List ℕ) (n : ℕ) → d ≡ less → less ≡ take n bounds → length bounds ≤ n → d ≡ bounds
copied d less bounds n same so all = same ∙ so ∙ take_all n bounds all

-- an entry is written where there is one
written : (xs d : List ℕ) (i : ℕ) → d ≡ xs → refill (length xs) xs (slice_set d i (slice_index_or d i 0 - 1)) ≡ less_at xs i
written xs d i same = rw same (refill-all xs (less_at xs i) (length-set xs i (slice_index xs i - 1)))

twice : (less d e bounds : List ℕ) (i : ℕ) → d ≡ less → less ≡ bounds → e ≡ refill (length less) less (slice_set d i (slice_index_or d i 0 - 1)) → e ≡ less_at bounds i
twice less d e bounds i same all value = value ∙ written less d i same ∙ ap (λ xs. less_at xs i) all

pub bounds-deref_mut-lower : goal.bounds-deref_mut-lower
bounds-deref_mut-lower c =
    let d : c.deref_mut.result.now ≡ c.args.bounds.now = copied _ _ _ c.loop-bound.bound-index c.deref_mut.ensures.value c.loop-bound.invariant c.loop-bound-test.false in
    rw d (omega (arith, c.requires.order, c.requires.entry))

pub overflow_sub-deref_mut : goal.overflow_sub-deref_mut
overflow_sub-deref_mut c =
    let d : c.deref_mut.result.now ≡ c.args.bounds.now = copied _ _ _ c.loop-bound.bound-index c.deref_mut.ensures.value c.loop-bound.invariant c.loop-bound-test.false in
    rw d c.requires.low

pub bounds-deref_mut-lower-2 : goal.bounds-deref_mut-lower-2
bounds-deref_mut-lower-2 c =
    let d : c.deref_mut.result.now ≡ c.args.bounds.now = copied _ _ _ c.loop-bound.bound-index c.deref_mut.ensures.value c.loop-bound.invariant c.loop-bound-test.false in
    rw d (omega (arith, c.requires.order, c.requires.entry))

pub bounds-deref_mut-higher : goal.bounds-deref_mut-higher
bounds-deref_mut-higher c =
    let d : c.deref_mut.result.now ≡ c.args.bounds.now = copied _ _ _ c.loop-bound.bound-index c.deref_mut.ensures.value c.loop-bound.invariant c.loop-bound-test.false in
    let e : c.deref_mut-2.result.now ≡ less_at c.args.bounds.now c.args.lower = twice _ c.deref_mut.result.now _ _ c.args.lower c.deref_mut.ensures.value (sym c.deref_mut.ensures.value ∙ d) c.deref_mut-2.ensures.value in
    omega (arith, ap length e, length-set c.args.bounds.now c.args.lower (slice_index c.args.bounds.now c.args.lower - 1), c.requires.entry)

pub overflow_sub-deref_mut-2 : goal.overflow_sub-deref_mut-2
overflow_sub-deref_mut-2 c =
    let d : c.deref_mut.result.now ≡ c.args.bounds.now = copied _ _ _ c.loop-bound.bound-index c.deref_mut.ensures.value c.loop-bound.invariant c.loop-bound-test.false in
    let e : c.deref_mut-2.result.now ≡ less_at c.args.bounds.now c.args.lower = twice _ c.deref_mut.result.now _ _ c.args.lower c.deref_mut.ensures.value (sym c.deref_mut.ensures.value ∙ d) c.deref_mut-2.ensures.value in
    rw (e, get_or-set_other c.args.bounds.now c.args.lower c.args.higher (slice_index c.args.bounds.now c.args.lower - 1) 0 (omega arith)) c.requires.high

pub bounds-deref_mut-higher-2 : goal.bounds-deref_mut-higher-2
bounds-deref_mut-higher-2 c =
    let d : c.deref_mut.result.now ≡ c.args.bounds.now = copied _ _ _ c.loop-bound.bound-index c.deref_mut.ensures.value c.loop-bound.invariant c.loop-bound-test.false in
    let e : c.deref_mut-2.result.now ≡ less_at c.args.bounds.now c.args.lower = twice _ c.deref_mut.result.now _ _ c.args.lower c.deref_mut.ensures.value (sym c.deref_mut.ensures.value ∙ d) c.deref_mut-2.ensures.value in
    omega (arith, ap length e, length-set c.args.bounds.now c.args.lower (slice_index c.args.bounds.now c.args.lower - 1), c.requires.entry)

pub returns : goal.returns
returns c =
    let d : c.deref_mut.result.now ≡ c.args.bounds.now = copied _ _ _ c.loop-bound.bound-index c.deref_mut.ensures.value c.loop-bound.invariant c.loop-bound-test.false in
    let e : c.deref_mut-2.result.now ≡ less_at c.args.bounds.now c.args.lower = twice _ c.deref_mut.result.now _ _ c.args.lower c.deref_mut.ensures.value (sym c.deref_mut.ensures.value ∙ d) c.deref_mut-2.ensures.value in
    written _ c.deref_mut-2.result.now c.args.higher c.deref_mut-2.ensures.value ∙ ap (λ xs. less_at xs c.args.higher) (sym c.deref_mut-2.ensures.value ∙ e)
