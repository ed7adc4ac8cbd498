-- Whole texts read as expressions: what is read, and where a text goes wrong.
use Rattle.std.proofs.Common.{◌≡◌, ◌≤◌, ◌+◌, ℕ, List, length, take, ◌++◌, Result, Ok, Err, sym, ◌∙◌, ap, arith}
use Rattle.sgb_expr.specs.Expression.{Expression}
use Rattle.sgb_expr.specs.Expressions.{IsExpression, IsNested}
use Rattle.sgb_expr.specs.inner.Reading.{nested_at, whole_at}
use Rattle.sgb_text.proofs.Readings.{◌>>=◌, at_end, whole_by}
use Rattle.sgb_expr.proofs.Nesting.{reads_nested, deep_enough, expression_nested}
use Rattle.sgb_text.proofs.WholeWords.{GoesWrong, goes_wrong, whole_word, word_whole}

-- to any depth of at least the text's length it is read alike
whole_same : (depth : ℕ) (text : List ℕ) → length text ≤ depth → whole_at text ≡ whole_by (nested_at depth) text
whole_same depth text h = ap (λ (r : Result (Expression × List ℕ) ℕ). r >>= λ read. at_end read.0 read.1) (expression_nested depth text h)

-- what is read is an expression
pub whole_read : (text : List ℕ) (e : Expression) → whole_at text ≡ Ok e → IsExpression text e
whole_read text e h =
    let depth = length text in
    (depth, word_whole (reads_nested depth) text e (sym (whole_same depth text (omega arith)) ∙ h))

-- an expression is read
pub whole_again : (text : List ℕ) (e : Expression) → IsExpression text e → whole_at text ≡ Ok e
whole_again text e is =
    let depth = is.0 + length text in
    whole_same depth text (omega arith) ∙ whole_word (reads_nested depth) tt text e (deep_enough depth is.0 (omega arith) text e is.1)

-- the longest prefix that begins an expression: no expression of any depth begins with more, since none does to a greater depth
pub whole_wrong : (text : List ℕ) (left : ℕ) → whole_at text ≡ Err left → GoesWrong IsExpression text left
whole_wrong text left h =
    let at : (depth : ℕ) → length text ≤ depth → GoesWrong (IsNested depth) text left =
    λ depth enough. goes_wrong (reads_nested depth) tt text left (sym (whole_same depth text enough) ∙ h) in
    let here = at (length text) (omega arith) in record {
      within = here.within;
      none = λ e is. (at (is.0 + length text) (omega arith)).none e (deep_enough (is.0 + length text) is.0 (omega arith) text e is.1);
      longest = record {
        within = here.longest.within;
        begins = (here.longest.begins.0, here.longest.begins.1, (length text, here.longest.begins.2));
        longest = λ j above within b.
            let depth = b.2.0 + length text in
            (at depth (omega arith)).longest.longest j above within (b.0, b.1, deep_enough depth b.2.0 (omega arith) (take j text ++ b.0) b.1 b.2.1);
      };
    }
