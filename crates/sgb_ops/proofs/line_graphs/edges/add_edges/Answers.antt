use Rattle.sgb_vec.proofs.Common.{◌≡◌, ◌+◌, ◌++◌, ◌∷◌, ◌∙◌, [], ℕ, List, false, drop, take, get_or, refl, sym, ap, arith, if◌then◌else◌, drop_all, drop_more}
use Rattle.sgb_graph.proofs.AddedEvents.{up_to-all, up_to-more}
use Rattle.sgb_ops.specs.Lines.{line_events}
use Rattle.sgb_ops.specs.inner.Lines.{no_line, events_to}
use Rattle.sgb_ops.specs.inner.LineLists.{touches}
use Rattle.sgb_ops.proofs.LineEvents.{events_from}
use Rattle.sgb_ops.proofs.LineLists.{numbers_more}
use Rattle.sgb_ops.proofs.line_graphs.edges.add_edges.Goals as goal

pub loop-i-preserved : goal.loop-i-preserved
loop-i-preserved c =
    let lines = c.args.lines.now in
    let i = c.loop-i.i in
    let line = get_or lines i no_line in
    let next : drop i lines ≡ line ∷ drop (i + 1) lines = drop_more lines i no_line (omega arith) in (
      up_to-more false c.args.built.now c.loop-i.built c.add_edges_from.new.built (events_to false i line (take i lines)) (events_from false lines (i + 1) (drop (i + 1) lines)) (line_events false lines) (events_from false lines i (drop i lines))
          c.loop-i.invariant.0 (ap (events_from false lines i) next) c.in_ok-add_edges_from.ensures.ok,
      (λ w. c.in_ok-push_line.ensures.ok w
          ∙ (ap (λ (ks : List ℕ). ks ++ (if touches w line then i ∷ [] else [])) (c.loop-i.invariant.1 w) ∙ sym (numbers_more w i lines line (omega arith) refl))),
      c.in_ok-push_line.ensures.size ∙ c.loop-i.invariant.2,
    )

pub returns-clause-ok : goal.returns-clause-ok
returns-clause-ok c =
    let lines = c.args.lines.now in
    let i = c.loop-i.i in
    up_to-all false c.args.built.now c.loop-i.built (events_from false lines i (drop i lines)) (line_events false lines) c.loop-i.invariant.0 (ap (events_from false lines i) (drop_all i lines (omega arith)))
