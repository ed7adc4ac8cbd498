-- The plain forms of words are read as the requests that they are.
use Rattle.std.proofs.Common.{◌↔◌, List, [], ◌∷◌, Some, None, Result, refl, sym, subst, codes, arith}
use Rattle.clap.specs.Faults.{defaults_fault}
use Rattle.clap.specs.Simple.{rows_at}
use Rattle.clap.specs.Walk.{walked}
use Rattle.clap.specs.Words.{Text}
use Rattle.sgb_requests.specs.PlainWords.{AreOptions, IsFlipReadBy, IsPlain, IsQueenRead, IsReadBy}
use Rattle.sgb_requests.specs.Requests.{IsCommandLineReadAs}
use Rattle.sgb_requests.specs.declared.faults.Fault.{Fault}
use Rattle.sgb_requests.specs.declared.requests.Request.{Request}
use Rattle.sgb_requests.specs.declared.requests.Request.TheVariants as request
use Rattle.sgb_requests.specs.declared.requests.Resume.{Resume}
use Rattle.sgb_requests.specs.declared.requests.Resume.TheVariants.{Whole, Skip, After}
use Rattle.sgb_requests.proofs.EnteredCommands.{alone_leaf, built_line, output_leaf, queen_leaf}
use Rattle.sgb_requests.proofs.PlainCommands.{AsksSo, after_asked, after_passes, alone_asked, alone_passes, asks, queen_entered, queen_taken, skip_asked, skip_passes, whole_asked, whole_passes}
use Rattle.sgb_requests.proofs.PlainReadings.{flip_read, list_read, names_read, queen_read, save_read}
use Rattle.sgb_requests.proofs.PlainTexts.{digits_plain}
use Rattle.sgb_requests.proofs.PlainWalks.{EntersShape}

-- what the words after the expression ask, where they are options
asks_so : (program name text : Text) (options : List Text) (resume : Resume) → EntersShape built_line name (output_leaf name) → IsPlain text → AreOptions options resume
    → AsksSo (program ∷ name ∷ text ∷ options) name text resume
asks_so program name text options Whole enters plain is =
    subst (λ (options : List Text). AsksSo (program ∷ name ∷ text ∷ options) name text Whole) (sym is)
    (asks program name text (output_leaf name) enters (text ∷ []) None None Whole (whole_passes name text plain) (whole_asked name text plain) tt)
asks_so program name text options (After given) enters plain is =
    subst (λ (options : List Text). AsksSo (program ∷ name ∷ text ∷ options) name text (After given)) (sym is.1)
    (asks program name text (output_leaf name) enters (text ∷ codes "--after" ∷ given ∷ []) (Some given) None (After given) (after_passes name text plain given is.0)
    (after_asked name text plain given is.0) refl)
asks_so program name text options (Skip k) enters plain is =
    subst (λ (options : List Text). AsksSo (program ∷ name ∷ text ∷ options) name text (Skip k)) (sym is.2)
    (let digits = digits_plain is.0 k is.1 in
    asks program name text (output_leaf name) enters (text ∷ codes "--skip" ∷ is.0 ∷ []) None (Some is.0) (Skip k) (skip_passes name text plain is.0 digits)
    (skip_asked name text plain is.0 digits) is.1)

-- a command of an expression alone
asks_alone : (program name text : Text) → EntersShape built_line name (alone_leaf name) → IsPlain text → AsksSo (program ∷ name ∷ text ∷ []) name text Whole
asks_alone program name text enters plain =
    asks program name text (alone_leaf name) enters (text ∷ []) None None Whole (alone_passes name text plain) (alone_asked name text plain) tt

pub names_law : (program text : Text) (options : List Text) (resume : Resume) (result : Result Request Fault) → IsPlain text → AreOptions options resume
    → IsCommandLineReadAs (program ∷ codes "names" ∷ text ∷ options) result ↔ IsReadBy (λ e. request.Names e resume) text result
unfolding walked defaults_fault
names_law program text options resume result plain is = grind (arith, names_read, codes, asks_so)

pub list_law : (program text : Text) (options : List Text) (resume : Resume) (result : Result Request Fault) → IsPlain text → AreOptions options resume
    → IsCommandLineReadAs (program ∷ codes "list" ∷ text ∷ options) result ↔ IsReadBy (λ e. request.List e resume) text result
unfolding walked defaults_fault
list_law program text options resume result plain is = grind (arith, list_read, codes, asks_so)

pub save_law : (program text : Text) (result : Result Request Fault) → IsPlain text
    → IsCommandLineReadAs (program ∷ codes "save" ∷ text ∷ []) result ↔ IsReadBy (λ e. request.Save e) text result
unfolding walked defaults_fault
save_law program text result plain = grind (arith, save_read, codes, asks_alone)

pub flip_law : (program text : Text) (result : Result Request Fault) → IsPlain text
    → IsCommandLineReadAs (program ∷ codes "flip" ∷ text ∷ []) result ↔ IsFlipReadBy text result
unfolding walked defaults_fault
flip_law program text result plain = grind (arith, flip_read, codes, asks_alone)

pub queen_law : (program : Text) (result : Result Request Fault) → IsCommandLineReadAs (program ∷ codes "queen" ∷ []) result ↔ IsQueenRead result
queen_law program result =
    queen_read (program ∷ codes "queen" ∷ []) (rows_at queen_leaf []).1 (record { taken = queen_taken program; entered = queen_entered program }) refl result
