use Rattle.sgb_graph.proofs.Described.{described_only, described_is}
use Rattle.sgb_graph.proofs.laws.described_law.Goals as goal

pub returns : goal.returns
returns c = record { only = described_only; is = described_is }
