use Rattle.std.proofs.Common.{◌≡◌, ℕ, zero, suc, ◌+◌, ◌-◌, ◌<◌, List, [], ◌∷◌, ◌++◌, length, map, get_or, refl, ap, append_assoc, ◌∙◌, arith}
use Rattle.std.specs.Prelude.{slice_index}
use Rattle.std.specs.List.{flat_map, range_with_len}
use Rattle.std.proofs.lemmas.List.{drop-map, length-append, take-map}
use Rattle.std.proofs.lemmas.List.FromFn.{get_or-range_with_len, length-range_with_len}
use lib.Seq.{take-append_seam, drop-append_seam}
use Rattle.sgb_graph.specs.Graphs.{chain_of}
use Rattle.sgb_graph.specs.declared.fields.Link.{Link}
use Rattle.sgb_arrays.specs.Lists.{part_by_starts, starts_from}
use Rattle.sgb_arrays.specs.Runs.{part_starts, parts_of}
use Rattle.sgb_graph.specs.Vertices.{name_at}
use Rattle.sgb_arrays.proofs.laws.parts_law.Goals as goal

-- the first start
first_start : (at : ℕ) (sizes : List ℕ) → slice_index (starts_from at sizes) 0 ≡ at
first_start at [] = refl
first_start at (size ∷ sizes) = refl

-- the first part, after others
first_part : {X : Type 0} (before part rest : List X) (at : ℕ) (sizes : List ℕ) → length before ≡ at
    → part_by_starts (before ++ (part ++ rest)) (at ∷ starts_from (at + length part) sizes) 0 ≡ part
first_part before part rest at sizes size =
    let long : slice_index (starts_from (at + length part) sizes) 0 - at ≡ length part = omega (arith, first_start (at + length part) sizes) in
    rw (long, ← size, drop-append_seam before (part ++ rest)) (take-append_seam part rest)

-- each part
each_part : {A X : Type 0} (parts : A → List X) (vs : List A) (v at : ℕ) (d : A) (before : List X) → length before ≡ at → v < length vs
    → part_by_starts (before ++ flat_map parts vs) (starts_from at (map (λ u. length (parts u)) vs)) v ≡ parts (get_or vs v d)
each_part parts [] v at d before size within = absurd (omega arith)
each_part parts (u ∷ us) zero at d before size within = first_part before (parts u) (flat_map parts us) at (map (λ w. length (parts w)) us) size
each_part parts (u ∷ us) (suc v) at d before size within = grind (arith, append_assoc, length-append, each_part parts us v (at + length (parts u)) d (before ++ parts u) (omega (arith, size, length-append before (parts u))) (omega (arith, within)))

-- of the parts of a run one of them
run_part : {X : Type 0} (parts : ℕ → List X) (first count k : ℕ) → k < count → part_by_starts (parts_of parts first count) (part_starts parts first count) k ≡ parts (first + k)
unfolding parts_of part_starts
run_part parts first count k within =
    let place : get_or (range_with_len first count) k 0 ≡ first + k = get_or-range_with_len first count k 0 within in
    each_part parts (range_with_len first count) k 0 0 [] refl (omega (arith, within, length-range_with_len first count)) ∙ ap parts place

-- and of what is said of each
said_part : {X Y : Type 0} (f : X → Y) (parts : ℕ → List X) (first count k : ℕ) (starts : List ℕ) (said : List Y) → starts ≡ part_starts parts first count
    → said ≡ map f (parts_of parts first count) → k < count → part_by_starts said starts k ≡ map f (parts (first + k))
said_part f parts first count k starts said is are within = rw (is, are, ← run_part parts first count k within) (simp (drop-map, take-map))

pub returns : goal.returns
returns c = record {
  tips = λ g first count k starts tips lengths are within. said_part (λ (l : Link). l.tip) (chain_of g) first count k starts tips are.starts_are are.tips_are within;
  lengths = λ g first count k starts tips lengths are within. said_part (λ (l : Link). l.len) (chain_of g) first count k starts lengths are.starts_are are.lengths_are within;
  names = λ g first count k starts bytes are within. rw (are.starts_are, are.bytes_are) (run_part (name_at g) first count k within);
}
