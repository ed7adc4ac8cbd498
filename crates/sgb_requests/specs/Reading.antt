-- What reading an expression, or a flip, returns to a request.
use Rattle.std.specs.Prelude.{◌≡◌, ℕ, List, Result, Ok, Err}
use Rattle.sgb_expr.specs.Expressions.{IsExpressionRead}
use Rattle.sgb_expr.specs.FlipTexts.{IsFlipRead}
use Rattle.sgb_expr.specs.declared.expressions.Expr.{Expr}
use Rattle.sgb_expr.specs.declared.expressions.Unread.{Unread}
use Rattle.sgb_expr.specs.declared.flips.FlipParams.{FlipParams}
use Rattle.sgb_requests.specs.Faults.{fault_of_unread}
use Rattle.sgb_requests.specs.declared.faults.Fault.{Fault}

-- a text is read as this, or refused with the fault of the cause that it is not read for
abbrev pub IsReadOrRefused : {T : Type 0} → (Result T Unread → Type 0) → Result T Fault → Type 0
IsReadOrRefused IsRead (Ok x) = IsRead (Ok x)
IsReadOrRefused IsRead (Err f) = (cause : Unread) × IsRead (Err cause) × (f ≡ fault_of_unread cause)

-- the text is read as this expression, or refused with this fault
abbrev pub IsReadAs : List ℕ → Result Expr Fault → Type 0
IsReadAs text = IsReadOrRefused (IsExpressionRead text)

-- the text is read as this flip, or refused with this fault
abbrev pub IsFlipReadAs : List ℕ → Result FlipParams Fault → Type 0
IsFlipReadAs text = IsReadOrRefused (IsFlipRead text)
