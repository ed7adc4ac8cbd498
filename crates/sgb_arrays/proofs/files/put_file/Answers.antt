use Rattle.std.proofs.Common.{◌≡◌, ℕ, ◌≤◌, Bool, true, List, [], ◌∷◌, length, take, drop, get_or, sym, ap, ◌∙◌, arith, length-append, length-take-le}
use Rattle.std.specs.Prelude.{Some, Result, Ok, Err}
use Rattle.std.proofs.lemmas.List.{append-nil, nil_from_length, take_all}
use Rattle.sgb_file.specs.Devices.{IsPut}
use Rattle.sgb_file.specs.Saving.{text_of_graph}
use Rattle.sgb_arrays.proofs.files.put_file.Goals as goal

-- it is the same slice still
slice_kept : {T E : Type 0} (r : Result T E) (text before after : List ℕ) (old new : ℕ) (failed : Bool)
    → IsPut text (record { before = Some (old ∷ before); after = Some (new ∷ after); failed = failed }) r → old ≡ new
slice_kept (Ok x) text before after old new failed put = sym (ap (λ xs. get_or xs 0 0) put)
slice_kept (Err e) text before after old new failed put = sym (ap (λ xs. get_or xs 0 0) put.0.3)

-- whatever the sink answers: it fails only where the slice is full
file_filled : {T E : Type 0} (r : Result T E) (text after : List ℕ) (old new at : ℕ) (failed : Bool)
    → IsPut text (record { before = Some (old ∷ []); after = Some (new ∷ take at after); failed = failed }) r
    → length after ≡ length text → at ≤ length after → (failed ≡ true → at ≡ length after) → after ≡ text
file_filled (Ok x) text after old new at failed put size within full =
    let all : take at after ≡ text = ap (λ xs. drop 1 xs) put in
    grind (arith, length-take-le, take_all)
file_filled (Err e) text after old new at failed put size within full =
    let done : take at after ≡ put.0.0 = ap (λ xs. drop 1 xs) put.0.3 in
    grind (arith, take_all, length-append, append-nil, nil_from_length, put.0.2, full put.1)

pub returns : goal.returns
returns c =
    let text = text_of_graph c.args.graph.now in
    let sink = c.write_gb.new.sink in
    let same = slice_kept c.write_gb.result text [] _ _ sink.out.ghost_name sink.failed c.write_gb.ensures.put in
    let there = c.bytes-1.given.1.1 same in
    let size : length sink.out.now ≡ length text = ap length (sym there) ∙ c.bytes-1.given.1.0 ∙ c.requires in
    there ∙ file_filled c.write_gb.result text sink.out.now _ sink.out.ghost_name sink.at sink.failed c.write_gb.ensures.put size sink.within sink.full
