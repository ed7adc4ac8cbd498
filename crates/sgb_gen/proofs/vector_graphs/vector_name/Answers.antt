use Rattle.std.proofs.Common.{◌<◌, ◌^◌, arith, rules}
use Rattle.std.specs.List.{All}
use Rattle.std.proofs.lemmas.List.Elements.{All-from_get_or}
use Rattle.sgb_vec.proofs.VectorNames.{IsText-name_of_vector}
use Rattle.sgb_gen.proofs.vector_graphs.vector_name.Goals as goal

pub returns-clause-memory : goal.returns-clause-memory
returns-clause-memory c =
    let v = c.args.vector.now in
    let fits : All (λ n. n < 2 ^ 32) v = All-from_get_or (λ n. n < 2 ^ 32) v 0 (λ i _. omega (arith, c.type_inv.vector i)) in
    let name = IsText-name_of_vector v c.requires fits in
    search (rules, name)
