use Rattle.std.proofs.Common.{rules, ◌∙◌, sym, ap}
use Rattle.std.proofs.lemmas.List.{length-map}
use Rattle.sgb.proofs.Named.{named_here, named_nowhere, none_before-more, has_name}
use Rattle.sgb.proofs.writing.vertices.vertex_named.Goals as goal

pub returns-then-eq : goal.returns-then-eq
returns-then-eq c =
    sym (named_here _ _ _ _ c.name.ensures (ap (has_name c.args.name.now) (sym c.bytes.ensures.value) ∙ sym c.eq.ensures ∙ c.if-eq.true) c.loop-v.invariant)

pub loop-v-preserved : goal.loop-v-preserved
loop-v-preserved c =
    none_before-more _ _ _ _ c.name.ensures (ap (has_name c.args.name.now) (sym c.bytes.ensures.value) ∙ sym c.eq.ensures ∙ c.if-eq.false) c.loop-v.invariant

pub returns : goal.returns
returns c = search (rules, length-map, named_nowhere)
