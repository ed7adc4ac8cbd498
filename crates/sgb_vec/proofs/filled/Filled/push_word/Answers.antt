use Rattle.std.proofs.Common.{rules, length-drop, length-take-le}
use Rattle.sgb_vec.proofs.MovedWords.{word_front, word_put}
use Rattle.sgb_vec.proofs.filled.Filled.push_word.Goals as goal

pub returns : goal.returns
returns g c = search (rules, length-take-le, length-drop, word_put, word_front)
