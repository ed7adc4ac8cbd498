use Rattle.sgb_graph.specs.inner.KeptRecords.{plain_of}
use Rattle.sgb_graph.proofs.Lists.{mapped_all, mapped_more}
use Rattle.sgb_graph.proofs.leads.plain_of.Goals as goal

pub loop-record-preserved : goal.loop-record-preserved
loop-record-preserved c = mapped_more plain_of c.args.short.now.items c.deref-record-items.result.now c.loop-record.record-index _ c.plain.result c.loop-record.records.items c.push.new.self.items _ c.deref-record-items.ensures.value c.loop-record-test.true c.plain.ensures c.in_ok-push.ensures.items c.loop-record.invariant

pub returns : goal.returns
returns c = mapped_all plain_of c.args.short.now.items c.deref-record-items.result.now c.loop-record.record-index c.loop-record.records.items _ c.deref-record-items.ensures.value c.loop-record-test.false c.loop-record.invariant
