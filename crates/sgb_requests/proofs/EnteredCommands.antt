-- The commands that the words enter.
use Rattle.sgb_vec.proofs.Common.{◌≡◌, ◌≢◌, ◌∙◌, ◌⊎◌, Bool, cond, true, false, subst, List, [], ◌∷◌, ◌++◌, Option, Some, None, IsSome, Result, Ok, Err, IfOk, MatchResult, ap, sym, refl, inl, inr, codes, find, option_map, true≢false, arith, list_all, option_map_or}
use Rattle.std.specs.Str.{bytes_eq}
use Rattle.std.proofs.lemmas.Slice.Eq.{bytes_eq-Decides}
use Rattle.clap.specs.Faults.{entered_fault, level_fault}
use Rattle.clap.specs.Kinds.{Kinds}
use Rattle.clap.specs.Simple.{argument_words, built_leaf, entered, help_shape, inherited, label_of, marked_built, new_shape, names_of, rows_at, with_leaf_noted}
use Rattle.clap.specs.Walk.{answers_to, nothing_held, stop_after, walk_from}
use Rattle.clap.specs.Words.{App, FailsBy, HasKind, HasMatchesOf, Row, Rule, Shape, Text, built, fault_of, first_of, is_simple_and_free, subcommand_name_of, subcommand_of, subcommand_rows_of}
use Rattle.clap.specs.declared.error.Error.{Error}
use Rattle.clap.specs.declared.parser.matches.ArgMatches.{ArgMatches}
use Rattle.sgb_requests.specs.CommandLine.{Enters, command_line}
use Rattle.sgb_requests.specs.inner.CommandLine.{HasNoCommand, IsTaken, alone_shape, output_shape}
use Rattle.sgb_requests.proofs.ClapValues.{name_by_rows}
use Rattle.sgb_requests.proofs.ClapHelp.{IsNotHelp, walk_stops}
use Rattle.sgb_requests.proofs.ClapRequired.{each_valued, is_valued, none_first, none_second, required_first}

-- ---- what clap makes of the words

-- the clauses of a parse, at the command line
answered : (words : List Text) (r : Result ArgMatches Error) → IfOk r (HasMatchesOf command_line words)
    → (is_simple_and_free command_line ≡ true → FailsBy (fault_of command_line words) r) → MatchResult r (IsTaken words) (HasKind (fault_of command_line words))
answered words (Ok m) matches kinds = record { taken = kinds refl; entered = (matches refl).1 }
answered words (Err e) matches kinds = kinds refl

-- a parse of what is the command line takes the words or fails by them
pub parsed : (a : App) (words : List Text) (r : Result ArgMatches Error) → a ≡ command_line → IfOk r (HasMatchesOf a words)
    → (is_simple_and_free a ≡ true → FailsBy (fault_of a words) r) → MatchResult r (IsTaken words) (HasKind (fault_of command_line words))
parsed a words r is =
    subst (λ (a : App). IfOk r (HasMatchesOf a words) → (is_simple_and_free a ≡ true → FailsBy (fault_of a words) r)
    → MatchResult r (IsTaken words) (HasKind (fault_of command_line words))) (sym is) (answered words r)

-- ---- the command that is entered

-- the command line, as clap builds it
abbrev pub built_line : App
built_line = built command_line

-- its command of this name that has `EXPR`, `--after` and `--skip`
abbrev pub output_leaf : Text → Shape
output_leaf name = built_leaf (inherited (with_leaf_noted (marked_built command_line.top)) (output_shape name))

-- its command of this name that has `EXPR` alone
abbrev pub alone_leaf : Text → Shape
alone_leaf name = built_leaf (inherited (with_leaf_noted (marked_built command_line.top)) (alone_shape name))

-- its command `queen`, which has no argument
abbrev pub queen_leaf : Shape
queen_leaf = built_leaf (inherited (with_leaf_noted (marked_built command_line.top)) (new_shape (codes "queen")))

-- its commands, as the program knows them
abbrev commands : List Shape
commands =
    output_leaf (codes "names") ∷ output_leaf (codes "list") ∷ alone_leaf (codes "save") ∷ queen_leaf ∷ alone_leaf (codes "flip") ∷ []

-- its command `help`, which clap adds
abbrev help_leaf : Shape
help_leaf = built_leaf help_shape

-- the command of this shape is entered, with words that have no fault at it
record IsEntered (s : Shape) (e : Text × List Row) : Type 0 where
  words : List Text
  rows : rows_at s words ≡ e
  taken : level_fault s [] nothing_held words false [] ≡ []

-- the command of one of these shapes is
abbrev IsOneEntered : List Shape → Text × List Row → Type 0
IsOneEntered [] e = ⊥
IsOneEntered (s ∷ rest) e = IsEntered s e ⊎ IsOneEntered rest e

-- the faults of a command that is found
abbrev fault_at : List Text → Option Shape → Kinds
fault_at words found = option_map_or (λ s. level_fault s [] nothing_held words false []) found []

-- its name and its matches
abbrev entered_at : List Text → Option Shape → Option (Text × List Row)
entered_at words found = option_map (λ s. rows_at s words) found

-- of these commands and `help`, the one of this name
abbrev found_of_name : Text → List Shape → Option Shape
found_of_name name shapes = find (λ s. answers_to name (label_of s)) (shapes ++ help_leaf ∷ [])

-- a command that is found without a fault by another name than `help` is one of these
one_entered : (p : Text × List Text) (e : Text × List Row) (shapes : List Shape) → p.0 ≢ codes "help"
    → fault_at p.1 (found_of_name p.0 shapes) ≡ [] → entered_at p.1 (found_of_name p.0 shapes) ≡ Some e → IsOneEntered shapes e
one_entered p e [] no_help no_fault is = grind arith
one_entered p e (s ∷ rest) no_help no_fault is = go (answers_to p.0 (label_of s)) (one_entered p e rest no_help) no_fault is
  where
    go : (b : Bool)
        → (fault_at p.1 (found_of_name p.0 rest) ≡ [] → entered_at p.1 (found_of_name p.0 rest) ≡ Some e → IsOneEntered rest e)
        → fault_at p.1 (cond b (Some s) (found_of_name p.0 rest)) ≡ [] → entered_at p.1 (cond b (Some s) (found_of_name p.0 rest)) ≡ Some e
        → IsEntered s e ⊎ IsOneEntered rest e
    go true others no_fault is = inl (record { words = p.1; rows = cc; taken = no_fault })
    go false others no_fault is = inr (others no_fault is)

-- a command that is entered without a fault is one of the program's
entered_commands : (stop : Option (Text × List Text)) (e : Text × List Row) → IsNotHelp stop → entered_fault built_line stop ≡ []
    → entered built_line stop ≡ Some e → IsOneEntered commands e
entered_commands None e no_help no_fault is = cc
entered_commands (Some p) e no_help no_fault is = one_entered p e commands no_help no_fault is

-- words that clap takes enter none but these
commands_entered : (words : List Text) (e : Text × List Row) → fault_of command_line words ≡ [] → subcommand_of command_line words ≡ Some e
    → IsOneEntered commands e
commands_entered words e taken is =
    let given = argument_words command_line words in
    let names = names_of built_line in
    let no_help = walk_stops built_line.top names refl (walk_from nothing_held) given (none_first _ _ taken) tt in
    entered_commands (stop_after built_line.top.rules names given) e no_help (none_first _ _ (none_second _ _ taken)) is

-- a command whose first argument is required, once it is entered, has its name and that argument
first_entered : (s : Shape) (a : Rule) (rest : List Rule) (e : Text × List Row) → list_all is_valued s.rules ≡ true → s.rules ≡ a ∷ rest
    → a.required ≡ true → IsEntered s e → (e.0 ≡ s.name) × IsSome (first_of a.id e.1)
first_entered s a rest e valued first required is =
    subst (λ (e : Text × List Row). (e.0 ≡ s.name) × IsSome (first_of a.id e.1)) is.rows
    (refl, required_first s a rest is.words (each_valued s.rules valued) first required is.taken)

-- the command entered has this name and its expression
abbrev HasExpression : Text → Text × List Row → Type 0
HasExpression name e = (e.0 ≡ name) × IsSome (first_of (codes "EXPR") e.1)

-- a command that begins where the options say, once it is entered
output_entered : (name : Text) (e : Text × List Row) → IsEntered (output_leaf name) e → HasExpression name e
output_entered name e is = first_entered (output_leaf name) _ _ e refl refl refl is

-- a command of an expression alone, once it is entered
alone_entered : (name : Text) (e : Text × List Row) → IsEntered (alone_leaf name) e → HasExpression name e
alone_entered name e is = first_entered (alone_leaf name) _ _ e refl refl refl is

-- a command is entered under its name
name_entered : (s : Shape) (e : Text × List Row) → IsEntered s e → e.0 ≡ s.name
name_entered s e is = subst (λ (e : Text × List Row). e.0 ≡ s.name) is.rows refl

-- `names`, `list`, `save` or `flip` is entered, with its expression, or `queen`
abbrev IsCommandEntered : Text × List Row → Type 0
IsCommandEntered e =
    HasExpression (codes "names") e
    ⊎ (HasExpression (codes "list") e
    ⊎ (HasExpression (codes "save") e ⊎ ((e.0 ≡ codes "queen") ⊎ HasExpression (codes "flip") e)))

-- which of the commands it is
which_entered : (e : Text × List Row) → IsOneEntered commands e → IsCommandEntered e
which_entered e (inl names) = inl (output_entered _ e names)
which_entered e (inr (inl list)) = inr (inl (output_entered _ e list))
which_entered e (inr (inr (inl save))) = inr (inr (inl (alone_entered _ e save)))
which_entered e (inr (inr (inr (inl queen)))) = inr (inr (inr (inl (name_entered queen_leaf e queen))))
which_entered e (inr (inr (inr (inr (inl flip))))) = inr (inr (inr (inr (alone_entered _ e flip))))
which_entered e (inr (inr (inr (inr (inr none))))) = absurd none

-- its expression is there, unless it is `queen`
expression_there : (e : Text × List Row) → e.0 ≢ codes "queen" → IsCommandEntered e → IsSome (first_of (codes "EXPR") e.1)
expression_there e other h = grind (arith)

-- the command of these matches is the one that the words enter
pub entered_is : (words : List Text) (m : ArgMatches) (name : Text) (rows : List Row) → IsTaken words m → subcommand_name_of m ≡ Some name
    → option_map (λ p. p.1) (subcommand_rows_of m) ≡ Some rows → subcommand_of command_line words ≡ Some (name, rows)
entered_is words m name rows is named has = grind arith

-- the matches of a command have an expression, unless it is `queen`
pub has_expression : (words : List Text) (m : ArgMatches) (name : Text) (rows : List Row) → bytes_eq name (codes "queen") ≡ false → IsTaken words m → subcommand_name_of m ≡ Some name
    → option_map (λ p. p.1) (subcommand_rows_of m) ≡ Some rows → IsSome (first_of (codes "EXPR") rows)
has_expression words m name rows other is named has =
    expression_there (name, rows) (λ queen. true≢false (sym ((bytes_eq-Decides name (codes "queen")).1 queen) ∙ other)) (which_entered _ (commands_entered words _ is.taken (entered_is words m _ rows is named has)))

-- the command of these matches is entered
pub enters : (words : List Text) (m : ArgMatches) (name : Text) (rows : List Row) → IsTaken words m → subcommand_name_of m ≡ Some name → option_map (λ p. p.1) (subcommand_rows_of m) ≡ Some rows
    → Enters words name rows
enters words m name rows is named has = record { taken = is.taken; entered = entered_is words m name rows is named has }

-- by its name, with some matches
pub enters_some : (words : List Text) (m : ArgMatches) (name : Text) → IsTaken words m → subcommand_name_of m ≡ Some name → (rows : List Row) × Enters words name rows
enters_some words m name is named = go (subcommand_rows_of m) refl (sym (name_by_rows m) ∙ named)
  where
    go : (o : Option (Text × List Row)) → subcommand_rows_of m ≡ o → option_map (λ p. p.0) o ≡ Some name → (rows : List Row) × Enters words name rows
    go (Some p) e first = (p.1, enters words m name p.1 is named (ap (option_map (λ (p : Text × List Row). p.1)) e))
    go None e first = cc

-- where none of the commands is entered, no command is
pub not_called : (words : List Text) (m : ArgMatches) → IsTaken words m → (subcommand_name_of m ≡ Some (codes "names") → ⊥)
    → (subcommand_name_of m ≡ Some (codes "list") → ⊥) → (subcommand_name_of m ≡ Some (codes "save") → ⊥)
    → (subcommand_name_of m ≡ Some (codes "queen") → ⊥) → (subcommand_name_of m ≡ Some (codes "flip") → ⊥) → HasNoCommand words
not_called words m is no_names no_list no_save no_queen no_flip = go (subcommand_of command_line words) refl
  where
    go : (o : Option (Text × List Row)) → subcommand_of command_line words ≡ o → HasNoCommand words
    go None e = inr e
    go (Some p) e = absurd (which (which_entered p (commands_entered words p is.taken e)))
      where
        named : subcommand_name_of m ≡ Some p.0
        named = name_by_rows m ∙ ap (option_map (λ (p : Text × List Row). p.0)) (is.entered ∙ e)

        which : IsCommandEntered p → ⊥
        which h = grind arith
