-- What a call of the program does: the lines of an expression's graph are written, or a refusal is reported.
use Rattle.std.specs.Prelude.{◌≡◌, ◌⊎◌, ◌&&◌, ℕ, false, List, [], ◌∷◌, codes, IfSome, Result, Ok, Err}
use Rattle.sgb_vec.specs.declared.panics.Panic.{Panic}
use Rattle.sgb_graph.specs.Graphs.{GraphData}
use Rattle.sgb_expr.specs.Expression.{Expression, expression_of}
use Rattle.sgb_expr.specs.StdinUses.{has_stdin}
use Rattle.sgb_expr.specs.declared.expressions.Expr.{Expr}
use Rattle.sgb_requests.specs.Faults.{fault_line, status_of}
use Rattle.sgb_requests.specs.Reading.{IsReadAs}
use Rattle.sgb_requests.specs.declared.faults.Fault.{Fault}
use Rattle.sgb_requests.specs.declared.faults.Fault.TheVariants as fault
use Rattle.sgb.specs.Runs.{Input, IsReportedAs, IsRunFrom, Left}
use Rattle.sgb_values.specs.Values.{IsValueOn}
use Rattle.sgb_levels.specs.Lines.{IsLevelsAnswer}

-- what the words ask for after the program's name: the expression that the only one is read as; any other number of them is invalid
abbrev pub AskFor : List (List ℕ) → Result Expr Fault → Type 0
AskFor (name ∷ text ∷ []) read = IsReadAs text read
AskFor words read = read ≡ Err fault.Usage

-- the words ask for no expression that reads standard input
abbrev pub AskForNoStdin : List (List ℕ) → Type 0
AskForNoStdin words = (e : Expr) → AskFor words (Ok e) → has_stdin (expression_of e) ≡ false

-- the line of a refusal: of its own for an invalid command line, else that of `sgb`
unfoldable pub refusal_line : Fault → List ℕ
refusal_line fault.Usage = codes "usage: sgb_levels EXPR\n"
refusal_line f = fault_line f

-- only this refusal of the words was reported
abbrev pub IsRefused : {S : Type 0} → Fault → Left S → Type 0
IsRefused f l = IsReportedAs (refusal_line f) (status_of f) l

-- the answer of the program where standard input has these bytes
abbrev pub AreLevelsOn : List ℕ → Expression → Result (List ℕ) Fault → Type 0
AreLevelsOn input e answer = (value : Result GraphData Panic) × IsValueOn input e value × IsLevelsAnswer value answer

-- the distances in this expression's graph were written: standard input holds a text, with an answer, and this is a run with it
abbrev pub AreLevelsWritten : {S : Type 0} → Expression → Input → Left S → Type 0
AreLevelsWritten e source l = (held : List ℕ) × IfSome source.bytes (λ bytes. held ≡ bytes)
    × (a : Result (List ℕ) Fault) × AreLevelsOn held e a × IsRunFrom (has_stdin e && source.failed) a l

-- what these words ask for was done, or their refusal was reported
abbrev pub IsLevelsRun : {S : Type 0} → List (List ℕ) → Input → Left S → Type 0
IsLevelsRun words source l = ((e : Expr) × AskFor words (Ok e) × AreLevelsWritten (expression_of e) source l)
    ⊎ ((f : Fault) × AskFor words (Err f) × IsRefused f l)
