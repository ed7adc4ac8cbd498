use Rattle.std.proofs.Common.{rules, nat_lt, length-append, append_assoc}
use Rattle.sgb_vec.specs.Names.{name_of_vector}
use Rattle.sgb.specs.inner.Texts.{entries_text, entry_text}
use Rattle.sgb.proofs.MovedNames.{between-room, between-size, name-between}
use Rattle.std.proofs.lemmas.List.{length-take}
use Rattle.sgb.proofs.writing.kept_names.KeptName.push_through.Goals as goal

pub push_part_of-requires : goal.push_part_of-requires
push_part_of-requires c = search (rules, name_of_vector, between-size, between-room)

pub push_entry-requires : goal.push_entry-requires
push_entry-requires c = search (rules, between-room, length-append, length-take)

pub returns : goal.returns
returns c = search (rules, name_of_vector, entry_text, nat_lt, entries_text, between-room, name-between, append_assoc, length-append, length-take)
