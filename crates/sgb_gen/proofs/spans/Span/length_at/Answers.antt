use Rattle.std.proofs.Common.{◌≡◌, ◌+◌, ◌-◌, ◌<◌, ◌∙◌, ℕ, Bool, List, length, sym, ap, arith, rules}
use Rattle.std.specs.Prelude.{slice_get}
use Rattle.sgb_gen.specs.inner.Spans.{lengths_between}
use Rattle.sgb_gen.proofs.SpanArcs.{length-falling, length-rising, lengths-count}
use Rattle.sgb_gen.proofs.spans.Span.length_at.Goals as goal

-- it is one of as many as there are lengths
few : (rising : Bool) (from to k : ℕ) (ls : List ℕ) → lengths_between rising from to ≡ ls → k < length ls → k < to - from
few rising from to k ls is within = omega (arith, within, ap length is, lengths-count rising from to)

pub overflow_add-result-then-self : goal.overflow_add-result-then-self
overflow_add-result-then-self c =
    let s = c.self.inside in
    let within = few s.rising s.from s.to c.args.k _ (ap (λ d. d.lengths) c.self.view_is) c.requires in
    search rules

pub returns-then-self : goal.returns-then-self
returns-then-self c =
    let s = c.self.inside in
    let within = few s.rising s.from s.to c.args.k _ (ap (λ d. d.lengths) c.self.view_is) c.requires in
    ap (λ ls. slice_get ls c.args.k) (sym (ap (λ d. d.lengths) c.self.view_is) ∙ ap (λ r. lengths_between r s.from s.to) c.if-self.true)
    ∙ length-rising s.from s.to c.args.k within

pub overflow_sub-result : goal.overflow_sub-result
overflow_sub-result c =
    let s = c.self.inside in
    let within = few s.rising s.from s.to c.args.k _ (ap (λ d. d.lengths) c.self.view_is) c.requires in
    omega (arith, within)

pub returns : goal.returns
returns c =
    let s = c.self.inside in
    let within = few s.rising s.from s.to c.args.k _ (ap (λ d. d.lengths) c.self.view_is) c.requires in
    ap (λ ls. slice_get ls c.args.k) (sym (ap (λ d. d.lengths) c.self.view_is) ∙ ap (λ r. lengths_between r s.from s.to) c.if-self.false)
    ∙ length-falling s.from s.to c.args.k within
