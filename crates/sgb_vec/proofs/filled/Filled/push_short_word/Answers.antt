use Rattle.std.proofs.Common.{rules}
use Rattle.sgb_vec.proofs.MovedWords.{word_put}
use Rattle.sgb_vec.proofs.filled.Filled.push_short_word.Goals as goal

pub returns : goal.returns
returns g c = search (rules, word_put)
