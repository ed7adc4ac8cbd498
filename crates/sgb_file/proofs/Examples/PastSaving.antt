-- Graphs next to those that can be saved.
use Rattle.std.specs.Prelude.{◌≡◌, ◌≤◌, ◌<◌, pos, List, length, None, FitsSigned, IsTrue, nat_le, true, false, refl}
use Rattle.std.specs.Int.{w64}
use Rattle.std.proofs.Common.{ap, sym, ◌∙◌, arith}
use Rattle.sgb_graph.specs.Graphs.{GraphData}
use Rattle.sgb_graph.specs.Sound.{fields_fit}
use Rattle.sgb_graph.specs.declared.fields.Util.TheVariants.{Int}
use Rattle.sgb_graph.specs.declared.fields.ArcRec.{ArcRec}
use Rattle.sgb_file.specs.Saved.{ArcCanBeSaved, CanBeChecked, IsWritable, number_limit}
use Rattle.sgb_file.proofs.Examples.GraphFiles.{nothing, plain_arc}

-- an arc whose first field, or second, is an integer of more than 64 bits
pub wide_first : ArcCanBeSaved (record (plain_arc 0 None) { a = Int (pos 9223372036854775808) }) → ⊥
wide_first is = let fits : FitsSigned w64 (pos 9223372036854775808) = is.a in absurd (omega (arith, fits))

pub wide_second : ArcCanBeSaved (record (plain_arc 0 None) { b = Int (pos 9223372036854775808) }) → ⊥
wide_second is = let fits : FitsSigned w64 (pos 9223372036854775808) = is.b in absurd (omega (arith, fits))

-- numbers of nineteen digits: of arcs, and of arc records
pub limit : number_limit ≡ 1000000000000000000
limit = refl

pub many_arcs : IsWritable (record nothing { m = 1000000000000000000 }) → ⊥
many_arcs is = let few : 1000000000000000000 < 1000000000000000000 = is.arcs_counted in absurd (omega (arith, few))

pub many_records : (records : List ArcRec) → 1000000000000000000 ≤ length records → IsWritable (record nothing { records = records }) → ⊥
many_records records many is = let few : length records < 1000000000000000000 = is.records_counted in absurd (omega (arith, many, few))

-- the most vertices, and one more
pub full : (g : GraphData) → length g.vertices ≡ 1000000000 → IsTrue (fields_fit g) → IsWritable g → CanBeChecked g
full g size fields writable = record { vertices_fit = ap (λ n. nat_le n 1000000000) size; fields = fields; writable = writable }

pub over_full : (g : GraphData) → length g.vertices ≡ 1000000001 → CanBeChecked g → ⊥
over_full g size is = let fits : false ≡ true = sym (ap (λ n. nat_le n 1000000000) size) ∙ is.vertices_fit in absurd cc
