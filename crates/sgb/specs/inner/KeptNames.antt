-- The name of a vector, as it is kept from one vector to the next.
use Rattle.std.specs.Prelude.{◌≡◌, ◌≤◌, ◌<◌, ◌^◌, ℕ, ◌+◌, List, length, take, get_or}
use Rattle.std.specs.List.{All}
use Rattle.sgb_vec.specs.Names.{name_of_vector}

-- this text is the vector's name, and each of these numbers tells how many bytes an entry and those before it take
pub record IsKeptName (vector ends text : List ℕ) : Type 0 where
  pub name : text ≡ name_of_vector vector
  pub few : length vector ≤ 251
  pub small : All (λ n. n < 2 ^ 32) vector
  pub count : length ends ≡ length vector
  pub places : (k : ℕ) → k < length vector → get_or ends k 0 ≡ length (name_of_vector (take (k + 1) vector))
