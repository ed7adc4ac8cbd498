-- A generator of random numbers as it is kept, and how it goes on [GB_FLIP, gb_next_rand and gb_flip_cycle].
use Rattle.std.specs.Prelude.{ℕ, List}

-- the numbers of a cycle, and how many of them are still to come
pub record FlipData : Type 0 where
  pub numbers : List ℕ
  pub left : ℕ
