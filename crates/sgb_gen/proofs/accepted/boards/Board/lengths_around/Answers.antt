use Rattle.std.proofs.Common.{◌≡◌, ◌-◌, ◌+◌, ◌%◌, ℕ, to_z, of_z, w64, eqb, ◌∙◌, rules, arith}
use Rattle.std.proofs.lemmas.Int.{to_z-of_z}
use Rattle.sgb_vec.proofs.BoxPlaces.{length-box}
use Rattle.sgb_moves.specs.Moves.{sides_of}
use Rattle.sgb_gen.specs.inner.BoardCounts.{comes_home}
use Rattle.sgb_gen.proofs.BoardCountsBoards.{rider-home}
use Rattle.sgb_gen.proofs.Reaches.{longest-rider}
use Rattle.sgb_gen.proofs.TimesAround.{away-before, home-at}
use Rattle.sgb_gen.proofs.accepted.boards.Board.lengths_around.Goals as goal

-- the piece is home at the multiples of that length
at_multiples : (c : goal.After-home) (l : ℕ) → comes_home (sides_of c.args.self.now.sizes c.args.self.now.wrap) c.args.self.now.piece c.args.t.now l ≡ eqb (l % c.home.result) 0
at_multiples c l = grind (arith, to_z, w64, of_z, to_z-of_z, rider-home)

pub returns-then-self-lt0-clause-within : goal.returns-then-self-lt0-clause-within
returns-then-self-lt0-clause-within c = search (rules, longest-rider, length-box)

pub returns-then-self-lt0-clause-away : goal.returns-then-self-lt0-clause-away
returns-then-self-lt0-clause-away c = λ l low high. at_multiples c l ∙ away-before c.home.result l low high

pub returns-then-self-lt0-clause-end : goal.returns-then-self-lt0-clause-end
returns-then-self-lt0-clause-end c = λ _. at_multiples c (c.home.result - 1 + 1) ∙ home-at c.home.result c.home.ensures.some
