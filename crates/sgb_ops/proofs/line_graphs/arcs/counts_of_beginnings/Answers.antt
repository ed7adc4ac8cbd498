use Rattle.sgb_vec.proofs.Common.{rules, ◌≡◌, ◌<◌, ◌+◌, ◌∙◌, ℕ, List, length, set, take, get_or, slice_index, sym, ap, arith, cases_eq, nat_tests, filter-append, length-append, length-set, get_or-set_other, get_or-set_same, take_all, take_more, get_or-replicate, get_or_default, length-take-le}
use Rattle.sgb_ops.specs.declared.line_graphs.line.Line.{Line}
use Rattle.sgb_ops.specs.inner.Lines.{no_line}
use Rattle.sgb_ops.specs.inner.LineRuns.{begin_at}
use Rattle.sgb_ops.proofs.LineRuns.{few_at}
use Rattle.sgb_ops.proofs.line_graphs.arcs.counts_of_beginnings.Goals as goal

pub overflow_add-index_mut : goal.overflow_add-index_mut
overflow_add-index_mut c = search (rules, no_line, get_or_default, length-take-le, few_at)

-- one line more is counted where it begins
counts_more : (lines : List Line) (i : ℕ) (counts : List ℕ) (here u : ℕ) → i < length lines → (get_or lines i no_line).from < length counts
    → here ≡ get_or counts (get_or lines i no_line).from here → slice_index counts u ≡ begin_at u (take i lines)
    → slice_index (set counts (get_or lines i no_line).from (here + 1)) u ≡ begin_at u (take (i + 1) lines)
counts_more lines i counts here u below within read now =
    let next = take_more lines i no_line below in
    grind (arith, next, filter-append, length-append, nat_tests, cases_eq, get_or-set_same, get_or-set_other, get_or_default)

pub loop-line-init : goal.loop-line-init
loop-line-init c =
    let items = c.in_ok-counts.ensures.items_if_clones_equal (λ y e. e) in (
      sym c.in_ok-counts.counts.ok.0 ∙ c.in_ok-counts.ensures.len,
      (λ w h. ap (λ ks. slice_index ks w) items ∙ get_or-replicate _ w 0 0 (omega (arith, h))),
    )

pub loop-line-preserved : goal.loop-line-preserved
loop-line-preserved c =
    let lines = c.args.lines.now in
    let i = c.loop-line.line-index in
    let counts = c.loop-line.counts.items in
    let here = c.index_mut.result.now in
    let below = (c.requires.within i no_line c.loop-line-test.true).0 in (
      length-set counts (get_or lines i no_line).from (here + 1) ∙ c.loop-line.invariant.0,
      (λ u h. counts_more lines i counts here u c.loop-line-test.true (omega (arith, below, c.loop-line.invariant.0)) c.index_mut.ensures.value (c.loop-line.invariant.1 u h)),
    )

pub returns-clause-counts : goal.returns-clause-counts
returns-clause-counts c = λ w h. c.loop-line.invariant.1 w h ∙ ap (begin_at w) (take_all c.loop-line.line-index c.args.lines.now (omega arith))
