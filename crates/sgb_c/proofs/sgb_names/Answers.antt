use Rattle.std.proofs.Common.{◌≡◌, ◌+◌, length, sym}
use Rattle.std.specs.Prelude.{Option, IsSomeAnd}
use Rattle.sgb_graph.specs.Graphs.{GraphData}
use Rattle.sgb_arrays.specs.OpenGraphs.{IsListed}
use Rattle.sgb_arrays.specs.Runs.{AreNames, HaveNameLengths, IsFillRefusal, IsThere}
use Rattle.sgb_arrays.specs.declared.refusals.Wrong.{Wrong}
use Rattle.sgb_c.specs.declared.held.Held.{Held}
use Rattle.sgb_c.proofs.Answered.{filled_on, two_left}
use Rattle.sgb_c.proofs.sgb_names.Goals as goal

pub returns-in-Some-clause-answer : goal.returns-in-Some-clause-answer
returns-in-Some-clause-answer c =
    let first = c.args.first in
    let count = c.args.count in
    let causes : Option Held → GraphData → Wrong → Type 0 = λ held g. IsFillRefusal g first count (HaveNameLengths g first count c.args.starts.now c.args.bytes.now) (IsSomeAnd held (λ h. IsListed h.graph) × (length c.args.starts.now ≡ count + 1)) in
    let held = sym (rw c.in-Some.is at c.lend.ensures.value) in
    filled_on c.args.graph.now.held.value c.in-Some.held.now (λ g. IsThere g first count × HaveNameLengths g first count c.args.starts.now c.args.bytes.now × AreNames g first count c.fill_names-filling.new.starts c.fill_names-filling.new.bytes) causes
    ((c.fill_names-filling.new.starts ≡ c.args.starts.now) × (c.fill_names-filling.new.bytes ≡ c.args.bytes.now)) c.fill_names-filling.result c.of_filling.result c.number.result held c.fill_names-filling.ensures.filled
    (two_left _ (c.fill_names-filling.new.starts ≡ c.args.starts.now) (c.fill_names-filling.new.bytes ≡ c.args.bytes.now) c.fill_names-filling.result c.fill_names-filling.ensures.refused) c.of_filling.ensures c.number.ensures
