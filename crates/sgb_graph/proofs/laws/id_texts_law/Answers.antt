use Rattle.std.proofs.lemmas.List.Sums.{AllPass-from_list_all, list_all-from_AllPass}
use Rattle.sgb_vec.specs.Names.{is_text_byte}
use Rattle.sgb_graph.proofs.laws.id_texts_law.Goals as goal

pub returns : goal.returns
returns c = λ t. (AllPass-from_list_all is_text_byte t, list_all-from_AllPass is_text_byte t)
