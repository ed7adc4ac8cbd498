-- Columns: those that are not used, their places, one value more.
use Rattle.sgb_vec.proofs.Common.{◌≡◌, ◌<◌, ◌+◌, ℕ, [], ◌∷◌, ◌++◌, length, ap, sym, ◌∙◌, arith, replicate, length-map, Some, slice_get, slice_get_read, get_or-replicate, length-replicate, length_push, replicate_more, add_comm}
use Rattle.sgb_graph.specs.inner.Columns.{HasPlace, HoldsMany, column_kind, values}
use Rattle.sgb_graph.specs.declared.columns.Column.{Column}
use Rattle.sgb_graph.specs.declared.columns.Column.TheVariants.{Unused}
use Rattle.sgb_graph.specs.declared.fields.Kind.TheVariants.{Z}
use Rattle.sgb_graph.specs.declared.fields.Util.{Util}
use Rattle.sgb_graph.specs.declared.fields.Util.TheVariants.{Nothing}

-- a column that is not used
pub unused : (c : Column) → column_kind c ≡ Z → c ≡ Unused
unused c h = grind (arith)

pub HoldsMany-unused : (n : ℕ) (c : Column) → column_kind c ≡ Z → HoldsMany n c
HoldsMany-unused n c h = rw (unused c h) (length-replicate n Nothing)

-- a column that is not used has any number of values
pub values-unused : (n : ℕ) (c : Column) → column_kind c ≡ Z → values (1 + n) c ≡ values n c ++ Nothing ∷ []
values-unused n c h = rw (unused c h) (ap (λ k. replicate k Nothing) (add_comm 1 n) ∙ sym (replicate_more n Nothing))

-- a column of n has each place below n
pub HasPlace-below : (c : Column) (n k : ℕ) → HoldsMany n c → k < n → HasPlace k c
HasPlace-below c n k h l = grind (arith, length-map)

-- a column of one value more
pub HoldsMany-push : (n : ℕ) (c c' : Column) (x : Util) → HoldsMany n c → values (1 + n) c' ≡ values n c ++ x ∷ [] → HoldsMany (1 + n) c'
HoldsMany-push n c c' x h e = omega (arith, ap length e, length_push (values n c) x)

-- and nothing at each place
pub slice_get-unused : (n k : ℕ) (c : Column) → c ≡ Unused → k < n → slice_get (values n c) k ≡ Some Nothing
slice_get-unused n k c is below = rw is (slice_get_read (replicate n Nothing) n k Nothing (sym (length-replicate n Nothing)) below (sym (get_or-replicate n k Nothing Nothing below)))
