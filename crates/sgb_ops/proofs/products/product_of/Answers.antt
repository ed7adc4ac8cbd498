use Rattle.sgb_vec.proofs.Common.{◌≡◌, ◌*◌, ◌∙◌, ℕ, ap, rules, le-ltb, lt-ltb, to_z-of_z}
use Rattle.sgb_vec.specs.Limits.{most_vertices}
use Rattle.sgb_graph.specs.Descriptions.{IsAnswerOf}
use Rattle.sgb_graph.specs.Vertices.{order_of}
use Rattle.sgb_ops.specs.Product.{product_type}
use Rattle.sgb_ops.specs.inner.Pairs.{has_too_many_pairs, product_graph}
use Rattle.sgb_ops.proofs.Refusals.{few_not_refused, many_refused}
use Rattle.sgb_ops.proofs.products.product_of.Goals as goal

-- the number of pairs, as the code multiplies it
pairs : (m n a b : ℕ) → a ≡ m → b ≡ n → a * b ≡ m * n
pairs m n a b first second = ap (λ k. k * b) first ∙ ap (λ k. m * k) second

pub product_of_few-requires : goal.product_of_few-requires
product_of_few-requires c = search (rules, pairs, order_of)

pub returns : goal.returns
returns c = search (rules, pairs, order_of, has_too_many_pairs, le-ltb, most_vertices, IsAnswerOf, product_graph, product_type, to_z-of_z, few_not_refused)

pub returns-then-have_too_many_pairs-clause-refused : goal.returns-then-have_too_many_pairs-clause-refused
returns-then-have_too_many_pairs-clause-refused c = search (rules, pairs, order_of, most_vertices, many_refused, lt-ltb)
