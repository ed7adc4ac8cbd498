-- Readers of argument lists, and of each generator's form.
use Rattle.sgb_vec.proofs.Common.{◌≤◌, ℕ, ℤ, zero, suc, List, [], ◌∷◌, ◌++◌, codes, sym, subst, lit≤, digit_value}
use Rattle.sgb_gen.specs.Shorthands.{complete, transitive, empty, circuit, cycle, disjoint_subsets, petersen}
use Rattle.sgb_expr.specs.Numbers.{IsInteger}
use Rattle.sgb_expr.specs.Forms.{AreArguments, AreSeparated, IsGeneratorCall, nth_number, board_params, simplex_params, subsets_params}
use Rattle.sgb_text.specs.Languages.{As}
use Rattle.sgb_text.proofs.Readings.{read_as}
use Rattle.sgb_expr.specs.inner.Readings.{integers_at}
use Rattle.sgb_expr.specs.inner.Reading.{generator_at, subsets_at}
use Rattle.sgb_gen.specs.declared.params.Generator.{Generator}
use Rattle.sgb_gen.specs.declared.params.Generator.TheVariants as generator
use Rattle.sgb_expr.specs.declared.names.GeneratorName.{GeneratorName}
use Rattle.sgb_expr.specs.declared.names.GeneratorName.TheVariants.{Board, Simplex, Subsets, Complete, Transitive, Empty, Circuit, Cycle, DisjointSubsets, Petersen}
use Rattle.sgb_text.proofs.Readers.{Anything, Reads, reads_then, reads_as, reads_cons}
use Rattle.sgb_text.proofs.Words.{reads_after, reads_fixed}
use Rattle.sgb_expr.proofs.Digits.{other_digit}
use Rattle.sgb_expr.proofs.NumberReaders.{Clear, reads_integer, reads_bits}

-- a text that begins with a byte that is no digit or letter
pub clear_byte : (byte : ℕ) (text : List ℕ) → 36 ≤ digit_value byte → Clear (byte ∷ text)
clear_byte byte text h other e digit = other_digit 36 byte other h e digit

-- an end of integers: a byte that is no digit or letter
pub data IsEnd : List ℕ → Type 0 where
  comma_end : IsEnd (codes ",")
  close_end : IsEnd (codes ")")

end_clear : (end tail : List ℕ) → IsEnd end → Clear (end ++ tail)
end_clear end tail comma_end = clear_byte 44 tail (lit≤ tt)
end_clear end tail close_end = clear_byte 41 tail (lit≤ tt)

-- what follows an integer in a list
numbers_clear : (n : ℕ) (end word tail : List ℕ) (numbers : List ℤ) → IsEnd end → AreSeparated IsInteger (codes ",") n end word numbers → Clear (word ++ tail)
numbers_clear zero end word tail numbers is a = subst (λ (u : List ℕ). Clear (u ++ tail)) (sym a.0) (end_clear end tail is)
numbers_clear (suc n) end word tail numbers is a = subst (λ (u : List ℕ). Clear (u ++ tail)) (sym a.1) (clear_byte 44 (a.0 ++ tail) (lit≤ tt))

-- a reader of integers one after another
pub reads_integers : (separator : List ℕ) (n : ℕ) (end : List ℕ) → IsEnd end → Reads (AreSeparated IsInteger separator n end) Anything (integers_at separator n end)
reads_integers separator zero end is = reads_fixed [] end
reads_integers separator (suc n) end is =
    reads_after separator (reads_cons reads_integer (reads_integers (codes ",") n end is) (λ word tail numbers w t. numbers_clear n end word tail numbers is w))

-- the arguments of subsets
reads_subsets : Reads (IsGeneratorCall Subsets) Anything subsets_at
reads_subsets =
    reads_then (reads_integers [] 6 (codes ",") comma_end)
    (λ numbers. reads_then reads_bits (λ bits. reads_as (λ directed. generator.Subsets (subsets_params numbers bits (nth_number directed 0))) (reads_integers (codes ",") 1 (codes ")") close_end))
    (λ v word tail value w t. numbers_clear 1 (codes ")") word tail w.0 close_end w.1))
    (λ v word tail value w t. tt)

-- a form of n integers
reads_as_integers : (n : ℕ) (make : List ℤ → Generator) → Reads (As make (AreArguments [] n)) Anything (read_as make (integers_at [] n (codes ")")))
reads_as_integers n make = reads_as make (reads_integers [] n (codes ")") close_end)

-- a reader of the arguments of each generator's form
pub reads_generator : (name : GeneratorName) → Reads (IsGeneratorCall name) Anything (generator_at name)
reads_generator Board = reads_as_integers 7 (λ numbers. generator.Board (board_params numbers))
reads_generator Simplex = reads_as_integers 7 (λ numbers. generator.Simplex (simplex_params numbers))
reads_generator Subsets = reads_subsets
reads_generator Complete = reads_as_integers 1 (λ numbers. generator.Board (complete (nth_number numbers 0)))
reads_generator Transitive = reads_as_integers 1 (λ numbers. generator.Board (transitive (nth_number numbers 0)))
reads_generator Empty = reads_as_integers 1 (λ numbers. generator.Board (empty (nth_number numbers 0)))
reads_generator Circuit = reads_as_integers 1 (λ numbers. generator.Board (circuit (nth_number numbers 0)))
reads_generator Cycle = reads_as_integers 1 (λ numbers. generator.Board (cycle (nth_number numbers 0)))
reads_generator DisjointSubsets = reads_as_integers 2 (λ numbers. generator.Subsets (disjoint_subsets (nth_number numbers 0) (nth_number numbers 1)))
reads_generator Petersen = reads_as_integers 0 (λ numbers. generator.Subsets petersen)
