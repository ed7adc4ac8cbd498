-- Draws of GB_FLIP.
use Rattle.std.specs.Prelude.{◌≡◌, ◌*◌, ◌%◌, pos, negsuc, refl, true, Some, [], ◌∷◌, ◌==◌}
use Rattle.std.specs.List.{list_all, range_with_len}
use Rattle.sgb_graph.specs.Draws.{y_number, x_number, back_to_first, seed_of, draw, first_taken, used_draw, plain_draws, uniform_draws}
use Rattle.sgb_graph.specs.inner.Draws.{uniform_within}

-- the first draw from -314159, as GB_FLIP's own test has it
pub first_draw : draw (seed_of (negsuc 314158)) 0 ≡ 119318998
unfolding y_number back_to_first
first_draw = refl

-- and the uniform draw below 1431655765 that comes after 133 further draws
pub uniform_draw : uniform_within (seed_of (negsuc 314158)) 1431655765 134 4 ≡ Some 748103812
unfolding y_number back_to_first
uniform_draw = refl

-- the first two uniform draws below 1 from 7: each is the next draw, and 0
pub first_below_one : uniform_within (seed_of (pos 7)) 1 0 1 ≡ Some 0
unfolding y_number back_to_first
first_below_one = refl

pub second_below_one : uniform_within (seed_of (pos 7)) 1 1 1 ≡ Some 0
unfolding y_number back_to_first
second_below_one = refl

-- a draw is below 2^31, so that a uniform draw below 2^31 throws none away
pub none_thrown_away : first_taken (seed_of (negsuc 314158)) 2147483648 0 1 ≡ Some 0
unfolding y_number back_to_first
none_thrown_away = refl

-- the first four draws from 7
pub four_draws : plain_draws (seed_of (pos 7)) 0 4 ≡ 529181769 ∷ 719591340 ∷ 1610774012 ∷ 194604418 ∷ []
unfolding y_number back_to_first plain_draws
four_draws = refl

-- the first three uniform draws from 7 below 2^30 + 1: draw 2 is thrown away
pub three_uniform_draws : uniform_draws (seed_of (pos 7)) 1073741825 0 3 ≡ 529181769 ∷ 719591340 ∷ 194604418 ∷ []
unfolding y_number back_to_first uniform_draws
three_uniform_draws = refl

pub third_used : used_draw (seed_of (pos 7)) 1073741825 2 ≡ 3
unfolding y_number back_to_first
third_used = refl

-- and below 10: none is thrown away
pub three_digits : uniform_draws (seed_of (pos 7)) 10 0 3 ≡ 9 ∷ 0 ∷ 2 ∷ []
unfolding y_number back_to_first uniform_draws
three_digits = refl

-- X(55) is Y(0), and X(21 k mod 55) is Y(k) for k from 1 to 54
pub first_numbers : list_all (λ k. x_number 119 (21 * k % 55) == y_number 119 k) (range_with_len 1 54) ≡ true
unfolding y_number back_to_first
first_numbers = refl

pub number_55 : x_number 119 55 ≡ y_number 119 0
unfolding y_number back_to_first
number_55 = refl
