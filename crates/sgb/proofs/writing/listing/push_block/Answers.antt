use Rattle.std.proofs.Common.{rules, ◌≡◌, ◌<◌, List, [], Option, None, refl, ap, subst, length}
use Rattle.std.specs.Iterator.{YieldsFirst}
use Rattle.std.specs.List.{All, flat_map}
use Rattle.std.proofs.lemmas.List.Elements.{All-tail}
use Rattle.sgb_vec.proofs.Lists.{steps_to}
use Rattle.sgb_graph.specs.declared.fields.Link.{Link}
use Rattle.sgb.specs.Texts.{arc_line}
use Rattle.sgb.proofs.Listings.{block-parts}
use Rattle.sgb.proofs.CutOff.{exit_write}
use Rattle.sgb.proofs.Pages.{paged_all, paged_more, paged_none, exit_part}
use Rattle.sgb.proofs.writing.listing.push_block.Goals as goal

-- the walk over arcs gives no more
step_none : (s u : List Link) (r : Option Link) → r ≡ None → YieldsFirst (λ x. x) s r u → s ≡ []
step_none s u r e h = (subst (λ o. YieldsFirst (λ x. x) s o u) e h).0

pub returns-in_err-push_name_line : goal.returns-in_err-push_name_line
returns-in_err-push_name_line g c = record {
  paged = exit_part _ _ _ _ _ _ _ _ _ _ _ _ _ c.from_residual.ensures.1 (paged_none _ c.args.page.now _) c.in_err-push_name_line.ensures.paged (block-parts c.args.graph.now c.args.v _ refl);
  fault = exit_write _ _ c.from_residual.ensures.1 c.in_err-push_name_line.ensures.fault;
}

pub loop-link-init : goal.loop-link-init
loop-link-init g c = search (rules, block-parts, paged_more, paged_none, All)

pub returns-in_err-push_arc : goal.returns-in_err-push_arc
returns-in_err-push_arc g c =
    let step = steps_to c.loop-link.link-iterator _ _ c.in-Some.link c.in-Some.is c.next.ensures.steps in
    record {
      paged = exit_part _ _ _ _ _ _ _ _ _ _ _ _ _ c.from_residual-in_err-push_arc.ensures.1 c.loop-link.invariant.0 c.in_err-push_arc.ensures.paged (ap (flat_map (arc_line _)) step);
      fault = exit_write _ _ c.from_residual-in_err-push_arc.ensures.1 c.in_err-push_arc.ensures.fault;
    }

pub loop-link-preserved : goal.loop-link-preserved
loop-link-preserved g c =
    let step = steps_to c.loop-link.link-iterator _ _ c.in-Some.link c.in-Some.is c.next.ensures.steps in (
      paged_more _ _ _ _ _ _ _ _ _ _ (ap (flat_map (arc_line _)) step) c.loop-link.invariant.0 c.in_ok-push_arc.ensures.paged.output,
      All-tail (λ link. link.tip < length c.args.graph.now.vertices) c.in-Some.link _ (rw step at c.loop-link.invariant.1),
      c.in_ok-push_arc.ensures.paged.sound,
    )

pub returns-clause-paged : goal.returns-clause-paged
returns-clause-paged g c = search (rules, step_none, paged_all, flat_map, arc_line)
