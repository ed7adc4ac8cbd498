use Rattle.sgb_vec.proofs.Common.{rules, map_push, replicate_more}
use Rattle.sgb_graph.proofs.columns.Column.push.Goals as goal
use Rattle.sgb_graph.proofs.columns.Column.push.Goals.{in-Ints-Int, in-Vertices-Vertex, in-Texts-Str, in-Chains-Chain, in_default+in-Str-1, in_default-via-in-Ints+in_default, in_default-via-in-Vertices+in_default, in_default-via-in-Texts+in_default, in_default-via-in-Chains+in_default, in_default-via-in_default, in_default+in-Nothing-1}

pub returns-clause-values : goal.returns-clause-values
returns-clause-values c n holds = search (rules, in-Ints-Int, map_push, in-Vertices-Vertex, in-Texts-Str, in-Chains-Chain, in_default+in-Str-1, in_default-via-in_default, in_default+in-Nothing-1, in_default-via-in-Ints+in_default, in_default-via-in-Vertices+in_default, in_default-via-in-Texts+in_default, in_default-via-in-Chains+in_default, replicate_more)
