use Rattle.sgb_file.proofs.ChecksumLemmas.{place_below, character_at_place, place_allowed, place_back}
use Rattle.sgb_file.proofs.laws.checksum_order_law.Goals as goal

pub returns : goal.returns
returns c = record { place = place_below; character = character_at_place; allowed = place_allowed; back = place_back }
