-- Texts and the expressions that they are, and where others go wrong, by evaluation.
use Rattle.std.proofs.Common.{◌≡◌, ◌≤◌, ◌<◌, ◌==◌, ◌++◌, ℕ, true, false, List, [], ◌∷◌, map, length, take, codes, Ok, Err, refl, ap, inl, inr, pos, negsuc, arith}
use Rattle.std.specs.Prelude.{count_by}
use Rattle.std.specs.List.{range_with_len}
use Rattle.std.proofs.lemmas.List.FromFn.{length-map-range_with_len, take-map-range_with_len}
use Rattle.std.proofs.lemmas.List.Sums.{count_by-le-length}
use Rattle.sgb_gen.specs.Shorthands.{complete, transitive, empty, circuit, cycle, disjoint_subsets, petersen}
use Rattle.sgb_expr.specs.Expression.{Expression, OnNumbers, OnGraph, OnGraphs, Entry, Entries}
use Rattle.sgb_expr.specs.Expressions.{IsOnGraphs, IsTooLarge}
use Rattle.sgb_expr.specs.inner.FlipTexts.{whole_flip_at}
use Rattle.sgb_expr.specs.inner.Names.{generator_openings, openings}
use Rattle.sgb_expr.specs.inner.Reading.{entries_at, expression_at, whole_at}
use Rattle.sgb_expr.specs.inner.Readings.{bits_at}
use Rattle.sgb_expr.specs.StdinUses.{has_stdin}
use Rattle.sgb_gen.specs.declared.params.Generator.TheVariants.{Board, Simplex, Subsets}

-- the complement of the petersen graph, with loops
reads_complement : whole_at (codes "complement(petersen(),0,-7,00)") ≡ Ok (Expression.OfGraph (OnGraph.Complement false true false) (Expression.Generated (Subsets petersen)))
unfolding expression_at openings generator_openings
reads_complement = refl

-- a union of two graphs, of which the second is a complement
reads_union : whole_at (codes "gunion(complete(2),complement(complete(3),1,0,0),0,1)") ≡ Ok (Expression.OfGraphs (OnGraphs.Gunion false true) (Expression.Generated (Board (complete (pos 2)))) (Expression.OfGraph (OnGraph.Complement true false false) (Expression.Generated (Board (complete (pos 3))))))
unfolding expression_at openings generator_openings
reads_union = refl

-- 17 bytes are left, of which the first, a `)`, stands where the complement inside lacks its third integer
wrong_inside : whole_at (codes "gunion(complement(petersen(),1,0),petersen(),0,0)") ≡ Err 17
unfolding expression_at openings generator_openings
wrong_inside = refl

-- a line graph that is directed
reads_lines : whole_at (codes "lines(petersen(),-7)") ≡ Ok (Expression.OfGraph (OnGraph.Lines true) (Expression.Generated (Subsets petersen)))
unfolding expression_at openings generator_openings
reads_lines = refl

-- a product, whose kind is an integer as it stands
reads_product : whole_at (codes "product(petersen(),complete(2),-3,1)") ≡ Ok (Expression.OfGraphs (OnGraphs.Product (negsuc 2) true) (Expression.Generated (Subsets petersen)) (Expression.Generated (Board (complete (pos 2)))))
unfolding expression_at openings generator_openings
reads_product = refl

-- a complete bipartite graph, and a wheel
reads_two_numbers :
    (whole_at (codes "bi_complete(2,-3,1)") ≡ Ok (Expression.OfNumbers (OnNumbers.BiComplete (pos 2) (negsuc 2) true)))
    × (whole_at (codes "wheel(5,1,0)") ≡ Ok (Expression.OfNumbers (OnNumbers.Wheel (pos 5) (pos 1) false)))
unfolding expression_at openings generator_openings
reads_two_numbers = (refl, refl)

-- the flags of an intersection
reads_intersection : whole_at (codes "intersection(complete(2),petersen(),1,0)") ≡ Ok (Expression.OfGraphs (OnGraphs.Intersection true false) (Expression.Generated (Board (complete (pos 2)))) (Expression.Generated (Subsets petersen)))
unfolding expression_at openings generator_openings
reads_intersection = refl

-- each parameter of a board, a simplex and subsets, at its place
reads_parameters :
    (whole_at (codes "board(1,2,3,4,5,-6,7)") ≡ Ok (Expression.Generated (Board (record { n1 = pos 1; n2 = pos 2; n3 = pos 3; n4 = pos 4; piece = pos 5; wrap = negsuc 5; directed = true }))))
    × (whole_at (codes "simplex(9,1,2,3,4,5,1)") ≡ Ok (Expression.Generated (Simplex (record { n = pos 9; n0 = pos 1; n1 = pos 2; n2 = pos 3; n3 = pos 4; n4 = pos 5; directed = true }))))
    × (whole_at (codes "subsets(9,1,2,3,4,5,0x1F,1)") ≡ Ok (Expression.Generated (Subsets (record { n = pos 9; n0 = pos 1; n1 = pos 2; n2 = pos 3; n3 = pos 4; n4 = pos 5; size_bits = 31; directed = true }))))
unfolding expression_at openings generator_openings
reads_parameters = (refl, refl, refl)

-- the flags the other way, so that each stands at its place
reads_flags :
    (map whole_at (codes "board(1,2,3,4,5,-6,0)" ∷ codes "simplex(9,1,2,3,4,5,0)" ∷ [])
    ≡ map (λ f. Ok (Expression.Generated f)) (Board (record { n1 = pos 1; n2 = pos 2; n3 = pos 3; n4 = pos 4; piece = pos 5; wrap = negsuc 5; directed = false }) ∷ Simplex (record { n = pos 9; n0 = pos 1; n1 = pos 2; n2 = pos 3; n3 = pos 4; n4 = pos 5; directed = false }) ∷ []))
    × (map whole_at (codes "product(stdin,stdin,1,0)" ∷ codes "intersection(stdin,stdin,0,1)" ∷ codes "gunion(stdin,stdin,1,0)" ∷ codes "bi_complete(2,0,1)" ∷ codes "wheel(5,0,1)" ∷ [])
    ≡ map (λ e. Ok e) (Expression.OfGraphs (OnGraphs.Product (pos 1) false) Expression.Stdin Expression.Stdin ∷ Expression.OfGraphs (OnGraphs.Intersection false true) Expression.Stdin Expression.Stdin ∷ Expression.OfGraphs (OnGraphs.Gunion true false) Expression.Stdin Expression.Stdin ∷ Expression.OfNumbers (OnNumbers.BiComplete (pos 2) (pos 0) true) ∷ Expression.OfNumbers (OnNumbers.Wheel (pos 5) (pos 0) true) ∷ []))
unfolding expression_at openings generator_openings
reads_flags = (refl, refl)

-- each short name
reads_short_names : map whole_at (codes "transitive(4)" ∷ codes "empty(4)" ∷ codes "circuit(4)" ∷ codes "cycle(4)" ∷ codes "disjoint_subsets(4,1)" ∷ [])
    ≡ map (λ f. Ok (Expression.Generated f)) (Board (transitive (pos 4)) ∷ Board (empty (pos 4)) ∷ Board (circuit (pos 4)) ∷ Board (cycle (pos 4)) ∷ Subsets (disjoint_subsets (pos 4) (pos 1)) ∷ [])
unfolding expression_at openings generator_openings
reads_short_names = refl

-- an integer of 18 digits; of 19 the last is left, and what comes after it
digits_of_integers :
    (whole_at (codes "complete(999999999999999999)") ≡ Ok (Expression.Generated (Board (complete (pos 999999999999999999)))))
    × (whole_at (codes "complete(0999999999999999999)") ≡ Err 2)
unfolding expression_at openings generator_openings
digits_of_integers = (refl, refl)

-- bits of 32 hexadecimal digits; of 33 the last is left
digits_of_bits :
    (bits_at (codes "0xfffffffffffffffffffffffffffffffF") ≡ Ok (340282366920938463463374607431768211455, []))
    × (bits_at (codes "0x0ffffffffffffffffffffffffffffffff") ≡ Ok (21267647932558653966460912964485513215, codes "f"))
digits_of_bits = (refl, refl)

-- entries are integers and expressions, in order
reads_induced : whole_at (codes "induced(complete(2),[3,petersen(),-4],0,9,0)")
    ≡ Ok (Expression.Induced (Expression.Generated (Board (complete (pos 2)))) (Entries.EntryThen (Entry.Number (pos 3)) (Entries.EntryThen (Entry.Graph (Expression.Generated (Subsets petersen))) (Entries.EntryThen (Entry.Number (negsuc 3)) Entries.NoEntries))) false true false)
unfolding expression_at entries_at openings generator_openings
reads_induced = refl

-- there may be none
reads_no_entries : whole_at (codes "induced(petersen(),[],1,0,1)") ≡ Ok (Expression.Induced (Expression.Generated (Subsets petersen)) Entries.NoEntries true false true)
unfolding expression_at entries_at openings generator_openings
reads_no_entries = refl

-- 10 bytes are left: no entry begins with a `,`
wrong_first_entry : whole_at (codes "induced(petersen(),[,1],0,0,0)") ≡ Err 10
unfolding expression_at entries_at openings generator_openings
wrong_first_entry = refl

-- 8 bytes are left: an entry has to come after a `,`
wrong_last_entry : whole_at (codes "induced(petersen(),[1,],0,0,0)") ≡ Err 8
unfolding expression_at entries_at openings generator_openings
wrong_last_entry = refl

-- 10 bytes are left: a `,` has to come before the next entry
wrong_comma : whole_at (codes "induced(petersen(),[1-2],0,0,0)") ≡ Err 10
unfolding expression_at entries_at openings generator_openings
wrong_comma = refl

-- standard input, by its whole word
reads_stdin : whole_at (codes "complement(stdin,0,0,1)") ≡ Ok (Expression.OfGraph (OnGraph.Complement false false true) Expression.Stdin)
unfolding expression_at openings generator_openings
reads_stdin = refl

-- 1 byte is left: nothing comes after the word
wrong_after_stdin : whole_at (codes "stdinx") ≡ Err 1
unfolding expression_at openings generator_openings
wrong_after_stdin = refl

-- no word begins with `stdi` and something else, so 2 bytes are left
wrong_in_stdin : whole_at (codes "stdixx") ≡ Err 2
unfolding expression_at openings generator_openings
wrong_in_stdin = refl

-- it stands in an entry of an entry's graph
finds_stdin : has_stdin (Expression.Induced (Expression.Generated (Subsets petersen)) (Entries.EntryThen (Entry.Number (pos 3)) (Entries.EntryThen (Entry.Graph (Expression.OfGraph (OnGraph.Lines true) Expression.Stdin)) Entries.NoEntries)) false true false) ≡ true
finds_stdin = refl

-- and as each operand; not in generators, in operations on numbers, or among integers
finds_each : map has_stdin (Expression.Stdin ∷ Expression.OfGraph (OnGraph.Lines false) Expression.Stdin ∷ Expression.Induced Expression.Stdin Entries.NoEntries false false false
    ∷ Expression.OfGraphs (OnGraphs.Gunion false false) Expression.Stdin (Expression.Generated (Subsets petersen)) ∷ Expression.OfGraphs (OnGraphs.Gunion false false) (Expression.Generated (Subsets petersen)) Expression.Stdin
    ∷ Expression.OfNumbers (OnNumbers.Wheel (pos 5) (pos 1) false) ∷ Expression.Induced (Expression.Generated (Subsets petersen)) (Entries.EntryThen (Entry.Number (pos 3)) Entries.NoEntries) false false false ∷ [])
    ≡ true ∷ true ∷ true ∷ true ∷ true ∷ false ∷ false ∷ []
finds_each = refl

-- what is no operation on graphs
on_no_graphs : (IsOnGraphs Expression.Stdin → ⊥) × (IsOnGraphs (Expression.Generated (Subsets petersen)) → ⊥) × (IsOnGraphs (Expression.OfNumbers (OnNumbers.Wheel (pos 5) (pos 1) false)) → ⊥)
on_no_graphs = (λ h. h, λ h. h, λ h. h)

-- what is asked of the random generator: leading zeros and a sign
flip_example : whole_flip_at (codes "flip(-3,00,5,07)") ≡ Ok (record { start = negsuc 2; skip = pos 0; count = pos 5; m = pos 7 })
flip_example = refl

-- 1 byte is left, a `)` where the fourth integer is missing
wrong_flip : whole_flip_at (codes "flip(1,2,3)") ≡ Err 1
wrong_flip = refl

-- ---- texts that are too large

-- so many bytes of one kind
abbrev bytes : ℕ → ℕ → List ℕ
bytes byte n = map (λ k. byte) (range_with_len 0 n)

no_opening : (places : List ℕ) → count_by (λ byte. byte == 40) (map (λ k. 32) places) ≡ 0
no_opening [] = refl
no_opening (k ∷ places) = no_opening places

-- of more than 65,536 bytes
too_long : (n : ℕ) → 65_536 < n → IsTooLarge (bytes 32 n)
too_long n e = inl (omega (arith, length-map-range_with_len {X = ℕ} (λ k. 32) 0 n))

not_too_long : (n : ℕ) → n ≤ 65_536 → IsTooLarge (bytes 32 n) → ⊥
not_too_long n e (inl long) = omega (arith, length-map-range_with_len {X = ℕ} (λ k. 32) 0 n)
not_too_long n e (inr (k, within, deep)) =
    omega (arith, ap (count_by (λ byte. byte == 40)) (take-map-range_with_len {X = ℕ} (λ k. 32) 0 n k (omega (arith, length-map-range_with_len {X = ℕ} (λ k. 32) 0 n))), no_opening (range_with_len 0 k))

-- of 65 nested in one another, also where they end; 64 are not too many
too_deep : IsTooLarge (bytes 40 65) × IsTooLarge (bytes 40 65 ++ bytes 41 65) × IsTooLarge (bytes 40 60 ++ (bytes 41 60 ++ bytes 40 65))
too_deep = (inr (65, omega arith, omega arith), inr (65, omega arith, omega arith), inr (185, omega arith, omega arith))

not_too_deep : (n : ℕ) → n ≤ 64 → IsTooLarge (bytes 40 n) → ⊥
not_too_deep n e (inl long) = omega (arith, length-map-range_with_len {X = ℕ} (λ k. 40) 0 n)
not_too_deep n e (inr (k, within, deep)) =
    omega (arith, ap length (take-map-range_with_len {X = ℕ} (λ k. 40) 0 n k (omega (arith, length-map-range_with_len {X = ℕ} (λ k. 40) 0 n))), length-map-range_with_len {X = ℕ} (λ k. 40) 0 k, length-map-range_with_len {X = ℕ} (λ k. 40) 0 n, count_by-le-length (λ byte. byte == 40) (take k (bytes 40 n)))
