use Rattle.sgb_vec.proofs.Common.{◌≡◌, ◌∙◌, Bool, true, false, decimal, refl, ap, digits, and_parts, and_from}
use Rattle.sgb_graph.specs.IdTexts.{is_id_text, flag_text}
use Rattle.sgb_ops.specs.declared.products.ProductType.{ProductType}
use Rattle.sgb_ops.specs.declared.products.ProductType.TheVariants.{Cartesian, Direct, Strong}
use Rattle.sgb_ops.specs.Product.{type_number}
use Rattle.sgb_ops.proofs.products.ProductType.id.Goals as goal

-- the number of a product may stand in an id
number_fits : (t : ProductType) → is_id_text (decimal (type_number t)) ≡ true
unfolding digits
number_fits Cartesian = refl
number_fits Direct = refl
number_fits Strong = refl

flag_fits : (b : Bool) → is_id_text (flag_text b) ≡ true
flag_fits true = refl
flag_fits false = refl

pub double_compound_id-requires-clause-after : goal.double_compound_id-requires-clause-after
double_compound_id-requires-clause-after c =
    and_from _ _ (and_parts _ _ (ap is_id_text c.digit.ensures ∙ number_fits c.args.self)).0
    (ap is_id_text c.flag_byte.ensures ∙ flag_fits c.args.directed)
