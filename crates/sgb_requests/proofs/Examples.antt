-- Words and what they ask, by evaluation of clap's own definitions; and the requests that plain words make.
use Rattle.std.proofs.Common.{◌≡◌, List, [], ◌∷◌, map, Option, Some, None, Ok, refl, inl, inr, codes, arith}
use Rattle.std.specs.Char.{digit_value}
use Rattle.std.specs.Fmt.{digits}
use Rattle.std.specs.Prelude.{◌<◌, Result, Err}
use Rattle.std.specs.Option.{option_map_or}
use Rattle.clap.specs.Faults.{defaults_fault, flags_fault, walk_fault}
use Rattle.clap.specs.Kinds.{Kinds}
use Rattle.clap.specs.Walk.{bundle_met, walked}
use Rattle.clap.specs.Words.{Row, Text, fault_of, subcommand_of}
use Rattle.clap.specs.declared.error.kind.ErrorKind.TheVariants as kind
use Rattle.sgb_requests.specs.CommandLine.{command_line}
use Rattle.sgb_requests.specs.inner.CommandLine.{Asked, asked_of}
use Rattle.sgb_text.specs.Numbers.{IsNumber}
use Rattle.sgb_expr.specs.Numbers.{most_digits}
use Rattle.sgb_vec.specs.declared.panics.Panic.TheVariants.{Late, NoRoom}
use Rattle.sgb_requests.specs.Faults.{fault_line, fault_of_kind, fault_of_unread, status_of}
use Rattle.sgb_requests.specs.PlainWords.{AreOptions, IsFlipReadBy, IsPlain, IsQueenRead, IsReadBy}
use Rattle.sgb_requests.specs.Reading.{IsFlipReadAs, IsReadAs}
use Rattle.sgb_requests.specs.Requests.{IsAskedOf, IsCommandLineReadAs, IsInvalidCommandLine, IsRefusedCommandLine, IsRequest, IsResumeOf}
use Rattle.sgb_expr.specs.declared.expressions.Expr.{Expr}
use Rattle.sgb_expr.specs.declared.expressions.Unread.TheVariants as unread
use Rattle.sgb_expr.specs.declared.flips.FlipParams.{FlipParams}
use Rattle.sgb_requests.specs.declared.faults.Fault.{Fault}
use Rattle.sgb_requests.specs.declared.faults.Fault.TheVariants as fault
use Rattle.sgb_requests.specs.declared.requests.Request.{Request}
use Rattle.sgb_requests.specs.declared.requests.Request.TheVariants as request
use Rattle.sgb_requests.specs.declared.requests.Resume.{Resume}
use Rattle.sgb_requests.specs.declared.requests.Resume.TheVariants.{Whole, Skip, After}
use Rattle.sgb_requests.proofs.PlainTexts.{expression_plain, flip_plain, letter}
use Rattle.sgb_requests.proofs.PlainWords.{flip_law, list_law, names_law, queen_law, save_law}

-- ---- by clap's definitions

-- a command's name, its expression, and the values of `--after` and `--skip`
abbrev asks : Text → Option Text → Option Text → Option Text → Option Asked
asks command expression after skip =
    Some (record { command = command; expression = expression; after = after; skip = skip })

-- the plain forms, after the program's name
abbrev plain_forms : List (List Text)
plain_forms =
    (codes "sgb" ∷ codes "names" ∷ codes "petersen()" ∷ [])
    ∷ (codes "sgb" ∷ codes "list" ∷ codes "board(2,2,0,0,1,0,0)" ∷ codes "--after" ∷ codes "0.1" ∷ [])
    ∷ (codes "sgb" ∷ codes "names" ∷ codes "petersen()" ∷ codes "--skip" ∷ codes "007" ∷ [])
    ∷ (codes "sgb" ∷ codes "list" ∷ codes "stdin" ∷ codes "--skip" ∷ codes "3" ∷ [])
    ∷ (codes "sgb" ∷ codes "save" ∷ codes "stdin" ∷ []) ∷ (codes "sgb" ∷ codes "queen" ∷ [])
    ∷ (codes "sgb" ∷ codes "flip" ∷ codes "flip(1,0,5,0)" ∷ []) ∷ []

plain_asked : map asked_of plain_forms
    ≡ asks (codes "names") (Some (codes "petersen()")) None None
    ∷ asks (codes "list") (Some (codes "board(2,2,0,0,1,0,0)")) (Some (codes "0.1")) None
    ∷ asks (codes "names") (Some (codes "petersen()")) None (Some (codes "007"))
    ∷ asks (codes "list") (Some (codes "stdin")) None (Some (codes "3"))
    ∷ asks (codes "save") (Some (codes "stdin")) None None
    ∷ asks (codes "queen") None None None
    ∷ asks (codes "flip") (Some (codes "flip(1,0,5,0)")) None None ∷ []
unfolding walked bundle_met
plain_asked = refl

plain_taken : map (fault_of command_line) plain_forms ≡ map (λ (words : List Text). let none : Kinds = [] in none) plain_forms
unfolding walked bundle_met walk_fault flags_fault defaults_fault
plain_taken = refl

-- a name that begins with `-` is taken for an option, unless it stands after `=`
hyphens :
    (fault_of command_line (codes "sgb" ∷ codes "names" ∷ codes "petersen()" ∷ codes "--after" ∷ codes "--1" ∷ []) ≡ kind.UnknownArgument ∷ [])
    × (asked_of (codes "sgb" ∷ codes "names" ∷ codes "petersen()" ∷ codes "--after=--1" ∷ []) ≡ asks (codes "names") (Some (codes "petersen()")) (Some (codes "--1")) None)
unfolding walked bundle_met walk_fault flags_fault defaults_fault
hyphens = (refl, refl)

-- no expression
expression_wanted : fault_of command_line (codes "sgb" ∷ codes "names" ∷ []) ≡ kind.MissingRequiredArgument ∷ []
unfolding walked bundle_met walk_fault flags_fault defaults_fault
expression_wanted = refl

-- no command, or both options
abbrev both_options : List Text
both_options = codes "sgb" ∷ codes "names" ∷ codes "petersen()" ∷ codes "--after" ∷ codes "0" ∷ codes "--skip" ∷ codes "1" ∷ []

abbrev rows_of : List Text → List Row
rows_of words = option_map_or (λ entered. entered.1) (subcommand_of command_line words) []

not_both : (resume : Resume) → IsResumeOf (Some (codes "0")) (Some (codes "1")) resume → ⊥
not_both Whole never = never
not_both (Skip k) never = never
not_both (After name) never = never

invalid : IsInvalidCommandLine (codes "sgb" ∷ []) × IsInvalidCommandLine both_options
unfolding walked bundle_met walk_fault flags_fault defaults_fault
invalid = (inl (inr refl), inr (codes "names", rows_of both_options, codes "petersen()", (record { taken = refl; entered = refl }, refl), not_both))

-- no number
abbrev no_count : List Text
no_count = codes "sgb" ∷ codes "names" ∷ codes "petersen()" ∷ codes "--skip" ∷ codes "x" ∷ []

not_number : (resume : Resume) → IsResumeOf None (Some (codes "x")) resume → ⊥
not_number Whole never = never
not_number (Skip k) number = let bad : digit_value 120 < 10 = number.numeral.1.0 in absurd (omega (arith, bad))
not_number (After name) never = never

invalid_count : IsInvalidCommandLine no_count
unfolding walked bundle_met walk_fault flags_fault defaults_fault
invalid_count = inr (codes "names", rows_of no_count, codes "petersen()", (record { taken = refl; entered = refl }, refl), not_number)

-- `10` is ten
ten : IsNumber 10 most_digits (codes "10") 10
ten = record { numeral = (omega arith, (omega arith, (omega arith, tt))); short = omega arith; writes = refl }

skipped : IsResumeOf None (Some (codes "10")) (Skip 10)
skipped = ten

-- the text after the command is read, or refused as too large
abbrev from_ten : List Text
from_ten = codes "sgb" ∷ codes "names" ∷ codes "stdin" ∷ codes "--skip" ∷ codes "10" ∷ []

names_from_ten : (read : Result Expr Fault) → IsReadAs (codes "stdin") read → IsAskedOf from_ten (codes "names") (Skip 10) read
unfolding walked bundle_met walk_fault flags_fault defaults_fault
names_from_ten read is = (rows_of from_ten, codes "stdin", (record { taken = refl; entered = refl }, refl), ten, is)

abbrev after_name : List Text
after_name = codes "sgb" ∷ codes "list" ∷ codes "stdin" ∷ codes "--after" ∷ codes "0.1" ∷ []

list_after_name : (read : Result Expr Fault) → IsReadAs (codes "stdin") read → IsAskedOf after_name (codes "list") (After (codes "0.1")) read
unfolding walked bundle_met walk_fault flags_fault defaults_fault
list_after_name read is = (rows_of after_name, codes "stdin", (record { taken = refl; entered = refl }, refl), refl, is)

listings_asked : (e : Expr) → IsReadAs (codes "stdin") (Ok e) → IsRequest from_ten (request.Names e (Skip 10)) × IsRequest after_name (request.List e (After (codes "0.1")))
listings_asked e is = (names_from_ten (Ok e) is, list_after_name (Ok e) is)

listings_refused : IsReadAs (codes "stdin") (Err fault.TooLarge) → IsRefusedCommandLine from_ten fault.TooLarge × IsRefusedCommandLine after_name fault.TooLarge
listings_refused is = (inl (Skip 10, inl (names_from_ten (Err fault.TooLarge) is)), inl (After (codes "0.1"), inr (list_after_name (Err fault.TooLarge) is)))

abbrev save_words : List Text
save_words = codes "sgb" ∷ codes "save" ∷ codes "stdin" ∷ []

save_asked : (e : Expr) → IsReadAs (codes "stdin") (Ok e) → IsRequest save_words (request.Save e)
unfolding walked bundle_met walk_fault flags_fault defaults_fault
save_asked e is = (rows_of save_words, codes "stdin", (record { taken = refl; entered = refl }, refl), is)

save_refused : IsReadAs (codes "stdin") (Err fault.TooLarge) → IsRefusedCommandLine save_words fault.TooLarge
unfolding walked bundle_met walk_fault flags_fault defaults_fault
save_refused is = inr (inl (rows_of save_words, codes "stdin", (record { taken = refl; entered = refl }, refl), is))

queen_asked : IsRequest (codes "sgb" ∷ codes "queen" ∷ []) request.Queen
unfolding walked bundle_met walk_fault flags_fault defaults_fault
queen_asked = (rows_of (codes "sgb" ∷ codes "queen" ∷ []), record { taken = refl; entered = refl })

abbrev flip_words : List Text
flip_words = codes "sgb" ∷ codes "flip" ∷ codes "flip(1,0,5,0)" ∷ []

flip_asked : (p : FlipParams) → IsFlipReadAs (codes "flip(1,0,5,0)") (Ok p) → IsRequest flip_words (request.Flip p)
unfolding walked bundle_met walk_fault flags_fault defaults_fault
flip_asked p is = (rows_of flip_words, codes "flip(1,0,5,0)", (record { taken = refl; entered = refl }, refl), is)

flip_refused : IsFlipReadAs (codes "flip(1,0,5,0)") (Err fault.TooLarge) → IsRefusedCommandLine flip_words fault.TooLarge
unfolding walked bundle_met walk_fault flags_fault defaults_fault
flip_refused is = inr (inr (rows_of flip_words, codes "flip(1,0,5,0)", (record { taken = refl; entered = refl }, refl), is))

-- the words of the options
options_written : AreOptions (codes "--after" ∷ codes "0.1" ∷ []) (After (codes "0.1")) × AreOptions (codes "--skip" ∷ codes "10" ∷ []) (Skip 10)
options_written = ((letter 48 refl, refl), (codes "10", ten, refl))

-- a word that begins with `-` is not plain
hyphen_inside : IsPlain (codes "a-b")
hyphen_inside = letter 97 refl

hyphen_first : IsPlain (codes "-a") → ⊥
hyphen_first plain = plain refl

-- out of memory any words may be refused
no_room : (make : Expr → Request) (text : Text) (words : List Text) →
    IsReadBy make text (Err (fault.Panic NoRoom)) × IsFlipReadBy text (Err (fault.Panic NoRoom)) × IsQueenRead (Err (fault.Panic NoRoom)) × IsRefusedCommandLine words (fault.Panic NoRoom)
no_room make text words = (inr refl, inr refl, refl, refl)

-- ---- by the law

-- `sgb names petersen()`
names_petersen : (e : Expr) → IsReadAs (codes "petersen()") (Ok e) → IsRequest (codes "sgb" ∷ codes "names" ∷ codes "petersen()" ∷ []) (request.Names e Whole)
names_petersen e read = (names_law _ _ _ Whole (Ok (request.Names e Whole)) (expression_plain _ e read) refl).1 (e, read, refl)

-- `sgb list board(2,2,0,0,1,0,0) --after 0.1`
list_board : (e : Expr) → IsReadAs (codes "board(2,2,0,0,1,0,0)") (Ok e)
    → IsRequest (codes "sgb" ∷ codes "list" ∷ codes "board(2,2,0,0,1,0,0)" ∷ codes "--after" ∷ codes "0.1" ∷ []) (request.List e (After (codes "0.1")))
list_board e read =
    (list_law _ _ _ (After (codes "0.1")) (Ok (request.List e (After (codes "0.1")))) (expression_plain _ e read) (letter 48 refl, refl)).1 (e, read, refl)

-- `007` is 7
seven : IsNumber 10 most_digits (codes "007") 7
seven = record { numeral = (omega arith, (omega arith, (omega arith, (omega arith, tt)))); short = omega arith; writes = refl }

-- `sgb names petersen() --skip 007`
names_skipped : (e : Expr) → IsReadAs (codes "petersen()") (Ok e)
    → IsRequest (codes "sgb" ∷ codes "names" ∷ codes "petersen()" ∷ codes "--skip" ∷ codes "007" ∷ []) (request.Names e (Skip 7))
names_skipped e read =
    (names_law _ _ _ (Skip 7) (Ok (request.Names e (Skip 7))) (expression_plain _ e read) (codes "007", seven, refl)).1 (e, read, refl)

-- `sgb save stdin`
save_stdin : (e : Expr) → IsReadAs (codes "stdin") (Ok e) → IsRequest (codes "sgb" ∷ codes "save" ∷ codes "stdin" ∷ []) (request.Save e)
save_stdin e read = (save_law _ _ (Ok (request.Save e)) (expression_plain _ e read)).1 (e, read, refl)

-- `sgb queen`
queen : IsCommandLineReadAs (codes "sgb" ∷ codes "queen" ∷ []) (Ok request.Queen)
queen = (queen_law _ (Ok request.Queen)).1 refl

-- `sgb flip flip(1,0,5,0)`
flip : (p : FlipParams) → IsFlipReadAs (codes "flip(1,0,5,0)") (Ok p) → IsRequest (codes "sgb" ∷ codes "flip" ∷ codes "flip(1,0,5,0)" ∷ []) (request.Flip p)
flip p read = (flip_law _ _ (Ok (request.Flip p)) (flip_plain _ p read)).1 (p, read, refl)

-- ---- faults

-- the lines of refusals, and the status of each
faults :
    (map fault_line (fault.TooLarge ∷ fault.Expr 13 ∷ fault.Panic Late ∷ fault.NoVertex ∷ fault.Read ∷ fault.Write ∷ [])
    ≡ codes "sgb: expression too large\n" ∷ codes "sgb: bad expression at byte 13\n"
    ∷ codes "Something went wrong (panic code 11)!\n" ∷ codes "sgb: no such vertex\n"
    ∷ codes "sgb: read fault\n" ∷ codes "sgb: write fault\n" ∷ [])
    × (fault_line fault.Usage
    ≡ codes "usage: sgb (names|list) EXPR [--after NAME|--skip K], sgb save EXPR, sgb queen, sgb flip EXPR\n")
    × (map status_of (fault.Usage ∷ fault.TooLarge ∷ fault.Expr 13 ∷ fault.Panic Late ∷ fault.NoVertex ∷ fault.Read ∷ fault.Write ∷ [])
    ≡ 2 ∷ 2 ∷ 2 ∷ 1 ∷ 1 ∷ 3 ∷ 3 ∷ [])
    × (map fault_of_unread (unread.TooLarge ∷ unread.At 13 ∷ unread.NoRoom ∷ []) ≡ fault.TooLarge ∷ fault.Expr 13 ∷ fault.Panic NoRoom ∷ [])
    × (map fault_of_kind (kind.OutOfMemory ∷ kind.UnknownArgument ∷ []) ≡ fault.Panic NoRoom ∷ fault.Usage ∷ [])
unfolding digits fault_line
faults = (refl, refl, refl, refl, refl)
