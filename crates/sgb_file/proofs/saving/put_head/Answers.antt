use Rattle.std.proofs.Common.{codes, decimal, map, sym}
use Rattle.sgb_graph.specs.Kinds.{letter_of}
use Rattle.sgb_file.proofs.WholeText.{seven_texts}
use Rattle.sgb_file.proofs.saving.put_head.Goals as goal

pub returns-clause-put : goal.returns-clause-put
returns-clause-put g c =
    let parts = seven_texts (codes "* GraphBase graph (util_types ") (map letter_of c.args.kinds.now) (codes ",") (decimal c.args.n) (codes "V,") (decimal c.args.records) (codes "A)\n") in
    rw (sym parts, sym c.format.ensures.text, sym c.as_bytes.ensures.value, sym c.format-2.ensures.text, sym c.as_bytes-2.ensures.value, sym c.letters.ensures) c.put_texts.ensures.put
