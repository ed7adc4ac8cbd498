-- The copies of each vertex, as they are looked up [GB_BASIC, induced].
use Rattle.std.specs.Prelude.{ℕ, List, filter, nat_le}
use Rattle.sgb_ops.specs.declared.induced_graphs.entries.Entry.{Entry}
use Rattle.sgb_ops.specs.Entries.{copies_of, merged_count}

-- the copies of v that are not merged with those of others
abbrev pub own_copies : List Entry → ℕ → List ℕ
own_copies entries v = filter (λ u. nat_le (merged_count entries) u) (copies_of entries v)
