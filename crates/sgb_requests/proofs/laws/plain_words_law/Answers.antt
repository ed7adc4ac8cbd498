use Rattle.sgb_requests.proofs.PlainTexts.{expression_plain, flip_plain}
use Rattle.sgb_requests.proofs.PlainWords.{flip_law, list_law, names_law, queen_law, save_law}
use Rattle.sgb_requests.proofs.laws.plain_words_law.Goals as goal

pub returns : goal.returns
returns c = record {
  names = names_law;
  list = list_law;
  save = save_law;
  queen = queen_law;
  flip = flip_law;
  expression = expression_plain;
  flip_text = flip_plain;
}
