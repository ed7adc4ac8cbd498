use Rattle.sgb_vec.proofs.Common.{rules, list_any, err_from_is_err_and}
use Rattle.sgb_ops.specs.Entries.{accepted_entries, is_unnumbered}
use Rattle.sgb_graph.specs.Vertices.{order_of}
use Rattle.sgb_ops.specs.inner.Begun.{IsBegun}
use Rattle.sgb_ops.specs.inner.Copies.{IsKeptEntry}
use Rattle.sgb_ops.proofs.BegunGraphs.{begun_count, begun_numbered, begun_own, begun_size, begun_within, finished_answer}
use Rattle.sgb_ops.proofs.Refusals.{not_refused, same_refusal}
use Rattle.sgb_ops.proofs.induced_graphs.induced_of.Goals as goal

pub finished-requires : goal.finished-requires
finished-requires c = search (rules, list_any, is_unnumbered, IsBegun, begun_count, begun_numbered, begun_own, begun_size, begun_within, IsKeptEntry)

pub returns-clause-answer : goal.returns-clause-answer
returns-clause-answer c = search (rules, accepted_entries, order_of, finished_answer, list_any, is_unnumbered, IsBegun, IsKeptEntry)

pub returns-clause-refused : goal.returns-clause-refused
returns-clause-refused c = search (rules, not_refused, accepted_entries)

pub returns-in_err-merged-clause-refused : goal.returns-in_err-merged-clause-refused
returns-in_err-merged-clause-refused c = search (rules, err_from_is_err_and, same_refusal, accepted_entries)
