-- How a graph keeps its arc records: what each one has one after another, and the utility fields beside.
use Rattle.std.specs.Prelude.{◌<◌, ◌&&◌, ℕ, Bool, ◌-◌, ◌^◌, ◌%◌, ◌==◌, List, [], ◌∷◌, length, map, Option, Some, None, if◌then◌else◌}
use Rattle.sgb_graph.specs.Sound.{chain_fits, ref_fits}
use Rattle.sgb_graph.specs.inner.Columns.{column_kind, values}
use Rattle.sgb_graph.specs.declared.columns.Column.{Column}
use Rattle.sgb_graph.specs.declared.fields.ArcRec.{ArcRec}
use Rattle.sgb_graph.specs.declared.fields.Kind.{Kind}
use Rattle.sgb_graph.specs.declared.fields.Ref.{Ref}
use Rattle.sgb_graph.specs.declared.fields.Ref.TheVariants.{At}
use Rattle.sgb_graph.specs.declared.fields.Util.{Util}
use Rattle.sgb_graph.specs.declared.leads.PlainRecord.{PlainRecord}
use Rattle.sgb_graph.specs.declared.leads.ShortRecord.{ShortRecord}
use Rattle.sgb_graph.specs.declared.leads.Leads.{Leads}
use Rattle.sgb_graph.specs.declared.leads.Leads.TheVariants.{Short, Plain}

-- the arc records of a graph, and what their utility fields a and b hold
pub record KeptRecords : Type 0 where
  pub a : Kind
  pub b : Kind
  pub items : List ArcRec

-- the number that 32 bits keep, in a word: the greatest stands for none in both
abbrev pub wide : ℕ → ℕ
wide short = if short == 2 ^ 32 - 1 then 2 ^ 64 - 1 else short

-- the number of a vertex, or 0 for what is none
abbrev pub vertex_or_0 : Ref → ℕ
vertex_or_0 (At v) = v
vertex_or_0 _ = 0

-- a record in 32 bits each
abbrev pub short_of : PlainRecord → ShortRecord
short_of p = record { len = p.len; next = p.next % 2 ^ 32; tip = vertex_or_0 p.tip }

-- and one that was kept so
abbrev pub plain_of : ShortRecord → PlainRecord
plain_of s = record { len = s.len; next = wide s.next; tip = At s.tip }

-- the records that are kept
abbrev pub plain_records : Leads → List PlainRecord
plain_records (Short records) = map plain_of records.items
plain_records (Plain records) = records.items

-- they are not kept in 32 bits each
abbrev pub ArePlain : Leads → Type 0
ArePlain (Short records) = 1 < 0
ArePlain (Plain records) = 0 < 1

-- the record of this number, where the greatest one stands for none
abbrev pub kept_number : ℕ → Option ℕ
kept_number k = if k == 2 ^ 64 - 1 then None else Some k

-- the records with these values of their utility fields
abbrev pub records_with : List PlainRecord → List Util → List Util → List ArcRec
records_with (p ∷ ps) (x ∷ xs) (y ∷ ys) =
    record { tip = p.tip; next = kept_number p.next; len = p.len; a = x; b = y } ∷ records_with ps xs ys
records_with _ _ _ = []

-- the records that are kept so
abbrev pub kept_records : List PlainRecord → Column → Column → KeptRecords
kept_records ps a b = record {
  a = column_kind a;
  b = column_kind b;
  items = records_with ps (values (length ps) a) (values (length ps) b);
}

-- the record leads to one of n vertices, or none, before one of m records, or none
abbrev pub plain_fits : ℕ → ℕ → PlainRecord → Bool
plain_fits n m p = ref_fits n p.tip && chain_fits m (kept_number p.next)

-- so of one in 32 bits each
abbrev pub short_fits : ℕ → ℕ → ShortRecord → Bool
short_fits n m s = ref_fits n (At s.tip) && chain_fits m (kept_number (wide s.next))
