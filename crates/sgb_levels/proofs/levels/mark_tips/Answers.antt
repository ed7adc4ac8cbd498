use Rattle.std.proofs.Common.{◌<◌, ◌∙◌, length, subst}
use Rattle.std.specs.List.{All}
use Rattle.std.proofs.lemmas.List.Elements.{All-tail}
use Rattle.sgb_graph.specs.declared.fields.Link.{Link}
use Rattle.sgb_vec.proofs.Lists.{steps_to}
use Rattle.sgb_levels.proofs.Marking.{tip_marked}
use Rattle.sgb_levels.proofs.levels.mark_tips.Goals as goal

pub loop-link-preserved : goal.loop-link-preserved
loop-link-preserved c =
    let left = c.loop-link.link-iterator in
    let rest = c.next.new.self in
    let Within = λ (l : Link). l.tip < length c.args.graph.now.vertices in
    let steps = steps_to left rest c.next.result c.in-Some.link c.in-Some.is c.next.ensures.steps in
    record {
      marks = tip_marked c.args.distance left rest c.next.result c.in-Some.link _ _ _ c.in-Some.is c.next.ensures.steps c.in_ok-mark.ensures.marks c.loop-link.invariant.marks;
      tips = All-tail Within c.in-Some.link rest (subst (All Within) steps c.loop-link.invariant.tips);
      size = c.mark.ensures.size ∙ c.loop-link.invariant.size;
    }
