-- The letters of what utility fields hold [GB_GRAPH, util_types].
use Rattle.std.specs.Prelude.{ℕ, codes, slice_index}
use Rattle.sgb_graph.specs.declared.fields.Kind.{Kind}
use Rattle.sgb_graph.specs.declared.fields.Kind.TheVariants.{Z, I, V, S, A}

-- the letter of a kind
abbrev pub letter_of : Kind → ℕ
letter_of Z = slice_index (codes "Z") 0
letter_of I = slice_index (codes "I") 0
letter_of V = slice_index (codes "V") 0
letter_of S = slice_index (codes "S") 0
letter_of A = slice_index (codes "A") 0
