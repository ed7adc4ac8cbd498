use Rattle.std.proofs.Common.{◌≡◌, ℕ, ◌+◌, ◌*◌, ◌<◌, ◌≤◌, List, length, ap, arith, rules}
use Rattle.std.proofs.lemmas.Grind.{get_or_default_zero}
use Rattle.sgb_gen.specs.inner.LocalArcs.{arcs_in}
use Rattle.sgb_gen.specs.LocalLists.{LinksData}
use Rattle.sgb_gen.proofs.LinkRows.{length-arcs_in, row_within, slice_get-arcs_in}
use Rattle.sgb_gen.proofs.links.Links.get.Goals as goal

-- the place is one of the lengths
place_within : (width i : ℕ) (d : LinksData) (tips lens : List ℕ) → record { width = width; arcs = arcs_in width tips lens } ≡ d → i < length d.arcs → i < length lens
place_within width i d tips lens view within = omega (arith, length-arcs_in width tips lens, ap (λ e. length e.arcs) view)

-- its vector stands within the entries that are read
row_read : (width i : ℕ) (d : LinksData) (tips lens read : List ℕ) → record { width = width; arcs = arcs_in width tips lens } ≡ d → length tips ≡ length lens * width → read ≡ tips → i < length d.arcs → i * width + width ≤ length read
row_read width i d tips lens read view long same within =
    omega (arith, row_within width (length lens) i (place_within width i d tips lens view within), ap length same)

pub row-requires : goal.row-requires
row-requires c = search (rules, row_read)

pub index-requires : goal.index-requires
index-requires c = search (rules, place_within)

pub returns : goal.returns
returns c = search (rules, place_within, slice_get-arcs_in, get_or_default_zero)
