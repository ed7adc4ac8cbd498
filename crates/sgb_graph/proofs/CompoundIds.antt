-- An operand's id, or a prefix of it, may stand in the id of a result.
use Rattle.sgb_vec.proofs.Common.{◌≡◌, ℕ, true, List, take, All-take, list_all-from_AllPass}
use Rattle.sgb_vec.specs.Names.{is_text_byte, IsTextByte}
use Rattle.sgb_graph.specs.Ids.{IsId}
use Rattle.sgb_graph.specs.IdTexts.{is_id_text}

-- an id passes the test
pub id_passes : (id : List ℕ) → IsId id → is_id_text id ≡ true
id_passes id is = list_all-from_AllPass is_text_byte id is.printable

-- so does a prefix of it
pub prefix_passes : (k : ℕ) (id : List ℕ) → IsId id → is_id_text (take k id) ≡ true
prefix_passes k id is = list_all-from_AllPass is_text_byte (take k id) (All-take IsTextByte k id is.printable)
