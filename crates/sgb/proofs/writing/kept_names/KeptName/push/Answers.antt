use Rattle.std.proofs.Common.{rules, length, nat_lt, ap, arith}
use Rattle.sgb.proofs.KeptNames.{kept-more}
use Rattle.sgb_vec.proofs.VectorNames.{length-name_of_vector-le}
use Rattle.sgb.proofs.writing.kept_names.KeptName.push.Goals as goal

pub push_entry-requires : goal.push_entry-requires
push_entry-requires c = search (rules, length-name_of_vector-le)

pub invariant_of-self : goal.invariant_of-self
invariant_of-self c =
    rw (c.push.ensures.items, c.push-2.ensures.items)
    (kept-more _ _ _ _ (nat_lt 0 c.len.result) c.args.entry c.len-2.result (omega (arith, c.ranges.entry.fits)) (omega (arith, c.requires, ap length c.self.view_is)) c.self.invariant (ap (nat_lt 0) c.len.ensures.value)
    c.push_entry.ensures.text c.len-2.ensures.value)
