use Rattle.sgb_vec.proofs.NameReading.{named-vector_of, vector_of-name}
use Rattle.sgb_vec.proofs.laws.names_read_back.Goals as goal

pub returns : goal.returns
returns c = record { named = named-vector_of; found = vector_of-name }
