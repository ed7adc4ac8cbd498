-- Records as they are kept: how many, each by its place, one more.
use Rattle.std.proofs.Common.{◌≡◌, ◌<◌, ◌+◌, ℕ, zero, suc, List, [], ◌∷◌, ◌++◌, length, option_map, slice_get, Some, refl, ap, sym, ◌∙◌, arith, append_assoc}
use Rattle.std.proofs.lemmas.List.{length_push}
use Rattle.sgb_graph.specs.inner.Columns.{HoldsMany, column_kind, values}
use Rattle.sgb_graph.specs.inner.KeptRecords.{KeptRecords, kept_number, kept_records, records_with}
use Rattle.sgb_graph.specs.declared.columns.Column.{Column}
use Rattle.sgb_graph.specs.declared.fields.ArcRec.{ArcRec}
use Rattle.sgb_graph.specs.declared.fields.Kind.TheVariants.{Z}
use Rattle.sgb_graph.specs.declared.fields.Util.{Util}
use Rattle.sgb_graph.specs.declared.fields.Util.TheVariants.{Nothing}
use Rattle.sgb_graph.specs.declared.leads.PlainRecord.{PlainRecord}
use Rattle.sgb_graph.proofs.ColumnValues.{HoldsMany-push, HoldsMany-unused, values-unused}

-- a record with its utility fields
abbrev pub record_with : PlainRecord → Util → Util → ArcRec
record_with p x y = record { tip = p.tip; next = kept_number p.next; len = p.len; a = x; b = y }

-- so many records as there are values
pub length-records_with :
    (ps : List PlainRecord) (xs ys : List Util) → length xs ≡ length ps → length ys ≡ length ps → length (records_with ps xs ys) ≡ length ps
length-records_with [] xs ys hx hy = refl
length-records_with (p ∷ ps) (x ∷ xs) (y ∷ ys) hx hy = ap suc (length-records_with ps xs ys (omega arith) (omega arith))
length-records_with _ _ _ hx hy = absurd (omega arith)

pub length-kept_records :
    (ps : List PlainRecord) (a b : Column) → HoldsMany (length ps) a → HoldsMany (length ps) b → length (kept_records ps a b).items ≡ length ps
length-kept_records ps a b ha hb = length-records_with ps (values (length ps) a) (values (length ps) b) ha hb

-- each record by its place
pub slice_get-records_with :
    (ps : List PlainRecord) (xs ys : List Util) (k : ℕ) (p : PlainRecord) (x y : Util) → k < length ps → slice_get ps k ≡ Some p →
    slice_get xs k ≡ Some x → slice_get ys k ≡ Some y → slice_get (records_with ps xs ys) k ≡ Some (record_with p x y)
slice_get-records_with [] xs ys k p x y l hp hx hy = absurd (omega arith)
slice_get-records_with (q ∷ qs) (u ∷ us) (v ∷ vs) (suc k) p x y l hp hx hy =
    slice_get-records_with qs us vs k p x y (omega arith) hp hx hy
slice_get-records_with (q ∷ qs) _ _ _ p x y l hp hx hy = cc

-- what a record has beside its utility fields, by its place
pub lead-records_with :
    (ps : List PlainRecord) (xs ys : List Util) (k : ℕ) (p : PlainRecord) → length xs ≡ length ps → length ys ≡ length ps → k < length ps → slice_get ps k ≡ Some p →
    (option_map (λ r. r.tip) (slice_get (records_with ps xs ys) k) ≡ Some p.tip)
    × (option_map (λ r. r.next) (slice_get (records_with ps xs ys) k) ≡ Some (kept_number p.next))
    × (option_map (λ r. r.len) (slice_get (records_with ps xs ys) k) ≡ Some p.len)
lead-records_with (q ∷ qs) (u ∷ us) (v ∷ vs) (suc k) p hx hy l hp = lead-records_with qs us vs k p (omega arith) (omega arith) (omega arith) hp
lead-records_with (q ∷ qs) (u ∷ us) (v ∷ vs) zero p hx hy l hp = (cc, cc, cc)
lead-records_with _ _ _ k p hx hy l hp = absurd (omega arith)

-- one record more
pub records_with-push :
    (ps : List PlainRecord) (xs ys : List Util) (p : PlainRecord) (x y : Util) → length xs ≡ length ps → length ys ≡ length ps →
    records_with (ps ++ p ∷ []) (xs ++ x ∷ []) (ys ++ y ∷ []) ≡ records_with ps xs ys ++ record_with p x y ∷ []
records_with-push [] [] [] p x y hx hy = refl
records_with-push (q ∷ qs) (u ∷ us) (v ∷ vs) p x y hx hy =
    ap (λ rs. record_with q u v ∷ rs) (records_with-push qs us vs p x y (omega arith) (omega arith))
records_with-push _ _ _ p x y hx hy = absurd (omega arith)

pub kept_records-push :
    (ps : List PlainRecord) (a b a' b' : Column) (p : PlainRecord) (x y : Util) → HoldsMany (length ps) a → HoldsMany (length ps) b →
    values (1 + length ps) a' ≡ values (length ps) a ++ x ∷ [] → values (1 + length ps) b' ≡ values (length ps) b ++ y ∷ [] →
    (kept_records (ps ++ p ∷ []) a' b').items ≡ (kept_records ps a b).items ++ record_with p x y ∷ []
kept_records-push ps a b a' b' p x y ha hb ea eb = grind (arith, length_push, records_with-push)

-- a kept record is the one it was made of
pub record_with-is :
    (p : PlainRecord) (r : ArcRec) → p.tip ≡ r.tip → kept_number p.next ≡ r.next → p.len ≡ r.len → record_with p r.a r.b ≡ r
record_with-is p r t n l = rw (← t, ← n, ← l) refl

-- one record more, and two, where no utility fields are used
pub kept_records-push_plain :
    (ps : List PlainRecord) (a b : Column) (p : PlainRecord) (r : ArcRec) → column_kind a ≡ Z → column_kind b ≡ Z → record_with p Nothing Nothing ≡ r →
    kept_records (ps ++ p ∷ []) a b ≡ record (kept_records ps a b) { items = (kept_records ps a b).items ++ r ∷ [] }
kept_records-push_plain ps a b p r ha hb e = grind (arith, kept_records-push, HoldsMany-unused, values-unused)

pub kept_records-push_pair :
    (ps : List PlainRecord) (a b : Column) (p q : PlainRecord) (r s : ArcRec) → column_kind a ≡ Z → column_kind b ≡ Z →
    record_with p Nothing Nothing ≡ r → record_with q Nothing Nothing ≡ s →
    kept_records (ps ++ p ∷ q ∷ []) a b ≡ record (kept_records ps a b) { items = (kept_records ps a b).items ++ r ∷ s ∷ [] }
kept_records-push_pair ps a b p q r s ha hb e f =
    ap (λ rs. kept_records rs a b) (sym (append_assoc ps (p ∷ []) (q ∷ [])))
    ∙ kept_records-push_plain (ps ++ p ∷ []) a b q s ha hb f
    ∙ ap (λ (d : KeptRecords). record d { items = d.items ++ s ∷ [] }) (kept_records-push_plain ps a b p r ha hb e)
    ∙ ap (λ rs. record (kept_records ps a b) { items = rs }) (append_assoc (kept_records ps a b).items (r ∷ []) (s ∷ []))

-- one record more, where room was taken before
pub record IsMore (ps : List PlainRecord) (a b : Column) (rs : List PlainRecord) (c d : Column) (r : ArcRec) : Type 0 where
  pub first : HoldsMany (length rs) c
  pub second : HoldsMany (length rs) d
  pub same : kept_records rs c d ≡ record (kept_records ps a b) { items = (kept_records ps a b).items ++ r ∷ [] }

pub record_pushed :
    (ps rs : List PlainRecord) (p : PlainRecord) (a b a' b' c d : Column) (r : ArcRec) → HoldsMany (length ps) a → HoldsMany (length ps) b → rs ≡ ps ++ p ∷ [] →
    column_kind c ≡ column_kind a → column_kind d ≡ column_kind b → ((n : ℕ) → values n a' ≡ values n a) → ((n : ℕ) → values n b' ≡ values n b) →
    ((n : ℕ) → HoldsMany n a' → values (1 + n) c ≡ values n a' ++ r.a ∷ []) → ((n : ℕ) → HoldsMany n b' → values (1 + n) d ≡ values n b' ++ r.b ∷ []) →
    record_with p r.a r.b ≡ r → IsMore ps a b rs c d r
record_pushed ps rs p a b a' b' c d r ha hb pushed ka kb va vb one other is = grind (arith, length_push, kept_records-push, IsMore, HoldsMany-push)
