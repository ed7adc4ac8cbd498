-- What a call of the program leaves, by what its words ask for and how the answer ended.
use Rattle.std.proofs.Common.{◌≡◌, ◌&&◌, ℕ, List, MatchResult, Result, Ok, Err, inl, inr}
use Rattle.std.specs.declared.io.ErrorKind.{ErrorKind}
use Rattle.sgb_expr.specs.Expression.{Expression, expression_of}
use Rattle.sgb_expr.specs.StdinUses.{has_stdin}
use Rattle.sgb_expr.specs.declared.expressions.Expr.{Expr}
use Rattle.sgb_requests.specs.declared.faults.Fault.{Fault}
use Rattle.sgb.specs.Program.{unread_fault}
use Rattle.sgb.specs.Runs.{AreUsed, Input, IsRunFrom, Left}
use Rattle.sgb.proofs.StdinValues.{kept_value}
use Rattle.sgb_levels.specs.Program.{AreLevelsOn, AreLevelsWritten, AskFor, IsLevelsRun, IsRefused}
use Rattle.sgb_levels.proofs.LevelAnswers.{value_answered}

-- the words ask for an expression, and it was answered, or they are refused, and that was reported
pub levels_ran : {W E S : Type 0} (words : Result W E) (texts : W → List (List ℕ)) (kind : E → ErrorKind) (read : Result Expr Fault) (source : Input) (l : Left S)
    → MatchResult words (λ w. AskFor (texts w) read) (λ x. read ≡ Err (unread_fault (kind x)))
    → MatchResult read (λ e. AreLevelsWritten (expression_of e) source l) (λ f. IsRefused f l)
    → MatchResult words (λ w. IsLevelsRun (texts w) source l) (λ x. IsRefused (unread_fault (kind x)) l)
levels_ran (Ok w) texts kind (Ok e) source l asked run = inl (e, asked, run)
levels_ran (Ok w) texts kind (Err f) source l asked refused = inr (f, asked, refused)
levels_ran (Err x) texts kind read source l asked refused = rw asked at refused

-- what is kept of standard input is as good as all of it
pub levels_written : {S : Type 0} (e : Expression) (source : Input) (kept : List ℕ) (l : Left S) → AreUsed (has_stdin e) source.bytes kept
    → ((a : Result (List ℕ) Fault) → AreLevelsOn kept e a → IsRunFrom (has_stdin e && source.failed) a l)
    → AreLevelsWritten e source l
levels_written e source kept l is run =
    let (held, told, value, on_held, on_kept) = kept_value source.bytes kept e is in
    let (a, answer) = value_answered value in
    (held, told, a, (value, on_held, answer), run a (value, on_kept, answer))
