use Rattle.std.proofs.Common.{◌∙◌, length, length-append, drop, ap, arith}
use Rattle.std.proofs.lemmas.List.{length-drop}
use Rattle.sgb_vec.specs.Names.{name_of_vector}
use Rattle.sgb.proofs.KeptNames.{other-text, kept-back, kept-start}
use Rattle.sgb.proofs.writing.kept_names.KeptName.push_between_ends.Goals as goal

pub push_rest_of-requires : goal.push_rest_of-requires
push_rest_of-requires c =
    let viewed = c.as_slice-vector.ensures.value ∙ c.self.view_is in
    let order = c.equal_to_end-to.ensures.within in
    let within = rw viewed at order.1 in
    let back = kept-back _ _ _ _ _ _ c.self.invariant c.self.view_is within c.end_of-2.ensures.value in
    let start = kept-start _ _ _ _ c.args.page.now _ _ c.self.invariant c.self.view_is (omega (arith, order.0, within)) c.end_of.ensures.value in
    (omega arith, (omega arith, (back.0, omega (arith, c.requires.room, back.1, start, within, order.0, c.push_entries.ensures.short, ap length c.push_start_of.ensures))))

pub returns : goal.returns
returns c =
    let viewed = c.as_slice-vector.ensures.value ∙ c.self.view_is in
    let order = c.equal_to_end-to.ensures.within in
    let within = rw viewed at order.1 in
    let back = kept-back _ _ _ _ _ _ c.self.invariant c.self.view_is within c.end_of-2.ensures.value in
    let start = kept-start _ _ _ _ c.args.page.now _ _ c.self.invariant c.self.view_is (omega (arith, order.0, within)) c.end_of.ensures.value in
    let text = c.self.inside.text in
    record {
      text = rw (c.push_rest_of.ensures, c.push_entries.ensures.text, c.push_start_of.ensures)
          (other-text _ _ _ _ _ _ _ _ (c.self.invariant.name ∙ ap name_of_vector c.self.view_is) order.0 within c.end_of.ensures.value c.end_of-2.ensures.value
          c.requires.width (rw viewed at c.equal_from_start-from.ensures.equal) (rw viewed at c.equal_to_end-to.ensures.equal));
      short = omega (
        arith,
        c.push_entries.ensures.short,
        ap length c.push_start_of.ensures,
        ap length c.push_rest_of.ensures,
        length-append c.push_entries.new.text (drop c.end_of-2.result text),
        length-drop c.end_of-2.result text,
        within,
        order.0,
        back.1,
        start,
      );
    }
