use Rattle.std.proofs.lemmas.Fmt.{decimal_digit}
use Rattle.sgb.proofs.writing.arc_lines.end_short_arc.Goals as goal

pub returns : goal.returns
returns g c = rw (decimal_digit c.args.len c.requires.few) c.push_text.ensures.put
