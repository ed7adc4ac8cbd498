use Rattle.std.proofs.Common.{[], ◌∷◌}
use Rattle.sgb_graph.specs.Columns.{util_seen}
use Rattle.sgb_graph.specs.inner.KeptVertices.{field_columns}
use Rattle.sgb_graph.proofs.Tables.{row_at}
use Rattle.sgb_graph.proofs.vertices.fields.Fields.get.Goals as goal

pub returns : goal.returns
returns c n below are =
    let row = util_seen c.get.result ∷ util_seen c.get-2.result ∷ util_seen c.get-3.result ∷ util_seen c.get-4.result ∷ util_seen c.get-5.result ∷ util_seen c.get-6.result ∷ [] in
    row_at n c.args.k (field_columns n c.args.self.now) row below (
      c.get.ensures n below are.0,
      (
        c.get-2.ensures n below are.1.0,
        (
          c.get-3.ensures n below are.1.1.0,
          (c.get-4.ensures n below are.1.1.1.0, (c.get-5.ensures n below are.1.1.1.1.0, (c.get-6.ensures n below are.1.1.1.1.1.0, tt))),
        ),
      ),
    )
