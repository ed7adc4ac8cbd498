use Rattle.std.proofs.Common.{◌-◌, length, arith}
use Rattle.sgb_vec.proofs.PutEnds.{ends_put}
use Rattle.sgb_vec.proofs.short_texts.push_ends.Goals as goal

pub returns : goal.returns
returns g c =
    let text = c.args.text.now in
    let whole = ends_put c.args.line.now text g.row.M (length text - g.row.M) (omega (arith, c.requires.least)) (omega (arith, c.requires.most)) in
    rw (c.push_text-2.ensures.put, c.first_bytes-2.ensures.value, c.cut.ensures, c.push_text.ensures.put, c.first_bytes.ensures.value, c.len-start.ensures.value) whole
