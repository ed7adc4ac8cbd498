use Rattle.std.proofs.Common.{◌≡◌, ◌+◌, ◌-◌, ◌*◌, ◌∙◌, ℕ, Some, ap, sym, subst}
use Rattle.std.specs.Prelude.{IfSome, Option}
use Rattle.std.proofs.lemmas.Bool.{OnFalse_at, OnTrue_at}
use Rattle.std.specs.List.{slice_get}
use Rattle.sgb_vec.specs.Boxes.{box}
use Rattle.sgb_gen.specs.Spans.{FallBy, SpanData}
use Rattle.sgb_gen.specs.inner.Spans.{LeadBack, LeadOn, lengths_between}
use Rattle.sgb_gen.proofs.SpanArcs.{fall-back, fall-on}
use Rattle.sgb_gen.proofs.spans.Span.tips.Goals as goal

pub returns-then-self-2 : goal.returns-then-self-2
returns-then-self-2 c =
    let s = c.self.inside in
    let there = subst (λ (d : SpanData). slice_get (box d.sizes) c.args.v ≡ Some d.x) (sym c.self.view_is) c.requires in
    let leads = subst (λ (o : Option ℕ). IfSome o (LeadBack s.sizes.now s.wrap s.x.now s.parts.now s.to)) c.in_ok-stride.was (OnTrue_at c.if-self-2.true c.self.invariant.4) in
    subst (λ (d : SpanData). FallBy d (c.args.v - (s.from + 1) * c.in_ok-stride.stride) c.in_ok-stride.stride)
    (ap (λ r. record { sizes = s.sizes.now; wrap = s.wrap; x = s.x.now; parts = s.parts.now; lengths = lengths_between r s.from s.to }) (sym c.if-self-2.true) ∙ c.self.view_is)
    (fall-back s.sizes.now s.wrap s.x.now s.parts.now s.from s.to c.args.v c.in_ok-stride.stride there leads)

pub returns-else-self-2 : goal.returns-else-self-2
returns-else-self-2 c =
    let s = c.self.inside in
    let there = subst (λ (d : SpanData). slice_get (box d.sizes) c.args.v ≡ Some d.x) (sym c.self.view_is) c.requires in
    let leads = subst (λ (o : Option ℕ). IfSome o (LeadOn s.sizes.now s.wrap s.x.now s.parts.now s.to)) c.in_ok-stride.was (OnFalse_at c.if-self-2.false c.self.invariant.5) in
    subst (λ (d : SpanData). FallBy d (c.args.v + s.to * c.in_ok-stride.stride) c.in_ok-stride.stride)
    (ap (λ r. record { sizes = s.sizes.now; wrap = s.wrap; x = s.x.now; parts = s.parts.now; lengths = lengths_between r s.from s.to }) (sym c.if-self-2.false) ∙ c.self.view_is)
    (fall-on s.sizes.now s.wrap s.x.now s.parts.now s.from s.to c.args.v c.in_ok-stride.stride there leads)
