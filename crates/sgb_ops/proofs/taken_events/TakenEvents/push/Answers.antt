use Rattle.sgb_vec.proofs.Common.{◌≡◌, ◌∙◌, ◌==◌, ◌&&◌, ◌++◌, pos, true, false, [], OnOk, if◌then◌else◌, append-nil, ap, subst, sym}
use Rattle.sgb_ops.specs.inner.Sources.{event_to}
use Rattle.sgb_ops.proofs.taken_events.TakenEvents.push.Goals as goal

pub returns-then-is_left_out-clause-events : goal.returns-then-is_left_out-clause-events
returns-then-is_left_out-clause-events g c =
    let s = c.args.self.now in
    let is : ((s.loops_once && (c.args.tip == s.vertex)) && c.args.after_loop.now) ≡ true = sym c.is_left_out.ensures.left ∙ c.if-is_left_out.true in
    sym (append-nil c.args.events.now.items) ∙ ap (λ b. c.args.events.now.items ++ (if b then [] else event_to s.directed s.vertex s.n c.args.tip (pos c.args.len))) (sym is)

pub returns-clause-events : goal.returns-clause-events
returns-clause-events g c =
    let s = c.args.self.now in
    let is : ((s.loops_once && (c.args.tip == s.vertex)) && c.args.after_loop.now) ≡ false = sym c.is_left_out.ensures.left ∙ c.if-is_left_out.false in
    subst (λ b. OnOk c.push_event.result (c.push_event.new.events.items ≡ c.args.events.now.items ++ (if b then [] else event_to s.directed s.vertex s.n c.args.tip (pos c.args.len)))) (sym is) c.push_event.ensures.ok
