use Rattle.sgb_vec.proofs.Common.{rules, take_rest}
use Rattle.sgb_file.proofs.reading.records.read_graph_fields.Goals as goal

pub returns-clause-found : goal.returns-clause-found
returns-clause-found c = rw (← take_rest c.args.head.now.kinds 8) (search rules)
