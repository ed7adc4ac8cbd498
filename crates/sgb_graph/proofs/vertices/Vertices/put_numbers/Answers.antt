use Rattle.std.proofs.Common.{◌<◌, length, map, subst, sym, ap, ◌∙◌, arith}
use Rattle.std.proofs.lemmas.Int.{to_z-of_z}
use mir.Syntax.{w64}
use mir.Val.{SFits}
use Rattle.sgb_graph.specs.Growth.{at_place, with_numbers, with_some_numbers}
use Rattle.sgb_graph.specs.inner.KeptVertices.{AreColumns, HoldNumbers, KeptVertices, field_columns}
use Rattle.sgb_graph.specs.declared.fields.Kind.TheVariants.{I}
use Rattle.sgb_graph.proofs.KeptVertices.{AreWritten, are_written, held_values, length-kept}
use Rattle.sgb_graph.proofs.vertices.Vertices.put_numbers.Goals as goal

pub hold_numbers-requires : goal.hold_numbers-requires
hold_numbers-requires c = subst (λ n. AreColumns n (field_columns n c.self.inside.fields)) (sym (c.len.ensures ∙ c.self.inside.names.ok.0)) c.self.invariant.columns

pub set_numbers-requires-clause-place : goal.set_numbers-requires-clause-place
set_numbers-requires-clause-place c =
    let names = c.self.inside.names.items in
    let below : c.args.v < length names = omega (arith, c.requires, length-kept names c.self.inside.firsts.items c.self.inside.fields c.args.self.now c.self.invariant c.self.view_is) in
    let held : HoldNumbers (length names) c.self.inside.fields c.hold_numbers.new.self = subst (λ n. HoldNumbers n c.self.inside.fields c.hold_numbers.new.self) (c.len.ensures ∙ c.self.inside.names.ok.0) c.in_ok-hold_numbers.ensures.ok in
    held_values (length names) c.args.v c.self.inside.fields c.hold_numbers.new.self c.self.invariant.columns held below

abbrev written : (c : goal.After-set_numbers) → AreWritten c.self.inside.names.items c.self.inside.firsts.items c.self.inside.fields c.set_numbers.new.self c.args.v c.args.x c.args.y c.args.z
written c =
    let x_fits : SFits w64 c.args.x = c.ranges.x in
    let y_fits : SFits w64 c.args.y = c.ranges.y in
    let z_fits : SFits w64 c.args.z = c.ranges.z in
    let held : HoldNumbers (length c.self.inside.names.items) c.self.inside.fields c.hold_numbers.new.self = subst (λ n. HoldNumbers n c.self.inside.fields c.hold_numbers.new.self) (c.len.ensures ∙ c.self.inside.names.ok.0) c.in_ok-hold_numbers.ensures.ok in
    are_written c.self.inside.names.items c.self.inside.firsts.items c.self.inside.fields c.hold_numbers.new.self c.set_numbers.new.self c.args.v c.args.x c.args.y c.args.z
    c.self.invariant held c.set_numbers.ensures.kinds (λ n. simp to_z-of_z at (c.set_numbers.ensures.columns n))

pub invariant_of-self-2 : goal.invariant_of-self-2
invariant_of-self-2 c = (written c).whole

pub returns-clause-ok : goal.returns-clause-ok
returns-clause-ok c =
    (written c).same
    ∙ ap (λ (d : KeptVertices). record d { x = I; y = I; z = I; items = at_place (with_numbers c.args.x c.args.y c.args.z) c.args.v (map with_some_numbers d.items) }) c.self.view_is
