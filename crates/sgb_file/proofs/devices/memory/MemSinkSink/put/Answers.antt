use Rattle.std.proofs.Common.{length, ap, sym, ◌∙◌, ◌++◌, take_all, arith}
use Rattle.sgb_file.proofs.devices.memory.MemSinkSink.put.Goals as goal

pub returns-in-Ok-clause-took : goal.returns-in-Ok-clause-took
returns-in-Ok-clause-took c =
    let bytes = c.args.bytes.now in
    c.in-Ok.ensures.items ∙ (rw (← c.self.view_is) (ap (λ taken. c.self.inside.bytes.items ++ taken) (sym (take_all (length bytes) bytes (omega arith)))))
