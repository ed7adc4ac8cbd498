use Rattle.sgb_file.proofs.RefusedTexts.{a_reader, restored_same}
use Rattle.sgb_file.proofs.laws.read_once_law.Goals as goal

pub returns : goal.returns
returns c text =
    let (read, is) = a_reader in
    (read text, is text, λ other also. restored_same text other (read text) also (is text))
