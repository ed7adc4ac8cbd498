-- When a text is a file of no graph, what its code says of it, and so what each text is read as [GB_SAVE, restore_graph].
use Rattle.std.specs.Prelude.{◌⊎◌, ℕ, List, IsFalse, Result, Ok, Err}
use Rattle.sgb_vec.specs.declared.panics.Panic.{Panic}
use Rattle.sgb_vec.specs.declared.panics.Panic.TheVariants.{Early, Late, Syntax}
use Rattle.sgb_graph.specs.Graphs.{GraphData}
use Rattle.sgb_graph.specs.Sound.{is_sound}
use Rattle.sgb_graph.specs.declared.fields.Kind.{Kind}
use Rattle.sgb_file.specs.Files.{Opens, HasRecords, IsClosed, IsFileOf}

-- 10: no lines that a text begins with are comments and a first line
abbrev pub HasNoOpening : List ℕ → Type 0
HasNoOpening text = (kinds : List Kind) (n m : ℕ) (lines : List (List ℕ)) → Opens text kinds n m lines → ⊥

-- what a text is read as: the graph that it is a file of; or the code of a text that is a file of none. 11: the records of a graph
-- stand there, and no line with their checksum comes next. 20: comments and a first line stand there, and no records of a graph
-- come next; or these and that line stand there too, and the graph's lists are not sound
abbrev pub IsRestoredAs : List ℕ → Result GraphData Panic → Type 0
IsRestoredAs text (Ok g) = IsFileOf g text
IsRestoredAs text (Err Early) = HasNoOpening text
IsRestoredAs text (Err Late) =
    (g : GraphData) × (records following : List (List ℕ)) × HasRecords text g records following × (IsClosed records following → ⊥)
IsRestoredAs text (Err Syntax) =
    ((HasNoOpening text → ⊥) × ((g : GraphData) (records following : List (List ℕ)) → HasRecords text g records following → ⊥))
    ⊎ ((g : GraphData) × (records following : List (List ℕ)) × HasRecords text g records following
    × IsClosed records following × IsFalse (is_sound g))
IsRestoredAs text (Err _) = ⊥
