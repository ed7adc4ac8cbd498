use Rattle.std.proofs.Common.{◌-◌, ◌+◌, ◌∙◌, ◌∷◌, [], ◌++◌, length, ap, refl, sym, arith, rules}
use Rattle.std.proofs.lemmas.List.{length-append}
use Rattle.sgb_arrays.specs.inner.PartsLeft.{parts_left}
use Rattle.sgb_arrays.specs.inner.Puts.{put_from}
use Rattle.sgb_arrays.proofs.GivenLists.{table_first}
use Rattle.sgb_arrays.proofs.NameLines.{line_at, line_ends, line_fits, lines_put}
use Rattle.sgb_arrays.proofs.PartsLeft.{parts_left-first, parts_left-whole}
use Rattle.sgb_arrays.proofs.PutValues.{bytes_put, part_counted}
use Rattle.sgb_arrays.proofs.name_lines.put_lines.Goals as goal

pub loop-v-init : goal.loop-v-init
loop-v-init c =
    let whole = parts_left-whole (line_at c.args.starts.now c.args.names.now) (length c.args.starts.now - 1) in
    record {
      lines = ap (λ xs. put_from 0 xs c.args.lines.now) whole;
      end = omega (arith, ap length whole);
      place = omega (arith, table_first (length c.args.names.now) c.args.starts.now c.requires.table);
      places = refl;
    }

pub put_line-requires : goal.put_line-requires
put_line-requires c =
    line_fits c.args.starts.now c.args.names.now c.loop-v.v c.loop-v.at c.part-name.result.now c.loop-v.lines c.requires.table (search rules) c.part-name.ensures c.loop-v.invariant.place (c.loop-v.invariant.places ∙ c.requires.places)

pub overflow_add-at-in-loop-v : goal.overflow_add-at-in-loop-v
overflow_add-at-in-loop-v c =
    let within = line_fits c.args.starts.now c.args.names.now c.loop-v.v c.loop-v.at c.part-name.result.now c.loop-v.lines c.requires.table (search rules) c.part-name.ensures c.loop-v.invariant.place (c.loop-v.invariant.places ∙ c.requires.places) in
    search (rules, within)

pub loop-v-preserved : goal.loop-v-preserved
loop-v-preserved c =
    let starts = c.args.starts.now in
    let names = c.args.names.now in
    let n = length starts - 1 in
    let v = c.loop-v.v in
    let at = c.loop-v.at in
    let name = c.part-name.result.now in
    let line = ap (λ xs. xs ++ 10 ∷ []) (sym c.part-name.ensures) in
    let size = length-append name (10 ∷ []) in
    let first = parts_left-first (line_at starts names) n v (search rules) in
    let later = parts_left (line_at starts names) n (v + 1) in
    record {
      lines = bytes_put at _ _ (line_at starts names v) (name ++ 10 ∷ []) later c.loop-v.lines c.put_line.new.lines _ first line (omega (arith, size)) c.put_line.ensures c.loop-v.invariant.lines;
      end = part_counted at (length name + 1) _ _ (line_at starts names v) later first (omega (arith, size, ap length line)) c.loop-v.invariant.end;
      place = line_ends starts names v at name c.requires.table (search rules) c.part-name.ensures c.loop-v.invariant.place;
      places = search rules;
    }

pub returns : goal.returns
returns c =
    lines_put c.args.starts.now c.args.names.now c.loop-v.v c.loop-v.at c.loop-v.lines c.args.lines.now c.requires.table (omega (arith, c.loop-v.auto.v-end)) c.requires.places c.loop-v.invariant.lines c.loop-v.invariant.end c.loop-v.invariant.place
