use Rattle.std.proofs.Common.{◌∙◌, ◌-◌, ◌^◌, ap, length, min}
use Rattle.sgb_file.specs.Saving.{text_of_graph}
use Rattle.sgb_arrays.proofs.open_graphs.local_file_len.Goals as goal

pub returns-clause-count : goal.returns-clause-count
returns-clause-count c = c.file_len.ensures ∙ ap (λ g. min (length (text_of_graph g)) (2 ^ 64 - 1)) c.in_ok-graph.ensures.graph
