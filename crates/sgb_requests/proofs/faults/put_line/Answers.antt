use Rattle.sgb_requests.specs.Faults.{fault_line}
use Rattle.sgb_requests.proofs.faults.put_line.Goals as goal

pub returns-in-Panic : goal.returns-in-Panic
unfolding fault_line
returns-in-Panic g c = rw (c.in-Panic.is, ← c.code.ensures, ← c.from-code.ensures) c.put_number-in-Panic.ensures

pub returns-in-NoVertex : goal.returns-in-NoVertex
unfolding fault_line
returns-in-NoVertex g c = rw c.in-NoVertex.is c.put_all-in-NoVertex.ensures.put

pub returns-in-Read : goal.returns-in-Read
unfolding fault_line
returns-in-Read g c = rw c.in-Read.is c.put_all-in-Read.ensures.put

pub returns-in-Write : goal.returns-in-Write
unfolding fault_line
returns-in-Write g c = rw c.in-Write.is c.put_all-in-Write.ensures.put
