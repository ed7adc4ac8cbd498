use Rattle.std.proofs.Common.{rules, length, ap, arith}
use Rattle.sgb_graph.proofs.KeptVertices.{kinds_record, unused_items, unused_kept}
use Rattle.sgb_graph.proofs.vertices.Vertices.named.Goals as goal

pub returns : goal.returns
returns c = search (rules, kinds_record, unused_items)

pub invariant_of-result : goal.invariant_of-result
invariant_of-result c =
    unused_kept c.into_texts.result.items c.in_ok-firsts.firsts.items c.new.result (omega (arith, c.in_ok-firsts.ensures.len, ap length c.into_texts.ensures)) c.new.ensures.kinds
