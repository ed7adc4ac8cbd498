-- What `flip` writes: random numbers of GB_FLIP, one a line [GB_FLIP, gb_init_rand, gb_next_rand and gb_unif_rand].
use Rattle.std.specs.Prelude.{ℕ, zero, suc, ℤ, pos, negsuc, cond, nat_le, decimal, List, [], ◌∷◌, ◌++◌, Result, Ok, Err}
use Rattle.std.specs.List.{flat_map}
use Rattle.std.specs.Result.{result_map_both}
use Rattle.sgb_vec.specs.Results.{and_then}
use Rattle.sgb_vec.specs.declared.panics.Panic.{Panic}
use Rattle.sgb_vec.specs.declared.panics.Panic.TheVariants.{Bad}
use Rattle.sgb_graph.specs.Draws.{modulus, plain_draws, seed_of, uniform_draws}
use Rattle.sgb_expr.specs.declared.flips.FlipParams.{FlipParams}
use Rattle.sgb.specs.declared.writing.flips.Draws.{Draws}
use Rattle.sgb_requests.specs.declared.faults.Fault.{Fault}
use Rattle.sgb_requests.specs.declared.faults.Fault.TheVariants as fault

-- at most so many draws may be thrown away, and at most so many numbers asked for
abbrev pub most_draws : ℕ
most_draws = 1_000_000_000

-- the integer, where it is from 0 to the greatest
abbrev pub number_within : ℕ → ℤ → Result ℕ Panic
number_within greatest (pos n) = cond (nat_le n greatest) (Ok n) (Err Bad)
number_within greatest (negsuc n) = Err Bad

-- the draws that a flip asks for, where skip and count are from 0 to 1,000,000,000 and m is from 0 to 2^31
abbrev pub accepted_draws : FlipParams → Result Draws Panic
accepted_draws p = and_then (number_within most_draws p.skip) (λ skip.
    and_then (number_within most_draws p.count) (λ count.
    and_then (number_within modulus p.m) (λ m.
    Ok (record { start = p.start; skip = skip; count = count; m = m }))))

-- so many numbers from draw k on: plain draws where m is 0, else uniform draws below m
abbrev pub drawn_from : ℕ → ℕ → ℕ → ℕ → List ℕ
drawn_from seed zero k count = plain_draws seed k count
drawn_from seed (suc m) k count = uniform_draws seed (suc m) k count

-- the lines of numbers, each its decimal digits and a newline (10)
unfoldable pub number_lines : List ℕ → List ℕ
number_lines numbers = flat_map (λ number. decimal number ++ 10 ∷ []) numbers

-- the output of a flip, of numbers after so many draws that are thrown away; or the fault that refuses it
abbrev pub flip_answer : FlipParams → Result (List ℕ) Fault
flip_answer p = result_map_both (λ d. number_lines (drawn_from (seed_of d.start) d.m d.skip d.count)) fault.Panic (accepted_draws p)
