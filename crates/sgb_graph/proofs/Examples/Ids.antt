-- Ids of results, where those of the operands do not fit.
use Rattle.std.specs.Prelude.{◌≡◌, ◌++◌, codes, replicate, refl}
use Rattle.sgb_graph.specs.Ids.{compound_id, double_compound_id}

-- product(a..,b..,0,0) leaves 146 bytes to both: where they have one more, 68 stay of the first and 69 of the second
pub just_fits : double_compound_id (codes "product(") (replicate 73 97) (codes ",") (replicate 73 98) (codes ",0,0)")
    ≡ codes "product(" ++ replicate 73 97 ++ codes "," ++ replicate 73 98 ++ codes ",0,0)"
unfolding double_compound_id
just_fits = refl

pub cut_at_odd_room : double_compound_id (codes "product(") (replicate 74 97) (codes ",") (replicate 73 98) (codes ",0,0)")
    ≡ codes "product(" ++ replicate 68 97 ++ codes "...)," ++ replicate 69 98 ++ codes "...),0,0)"
unfolding double_compound_id
cut_at_odd_room = refl

-- product(a..,b..,-1,0) leaves 145 bytes to both: where they have one more, 68 stay of each
pub cut_at_even_room : double_compound_id (codes "product(") (replicate 73 97) (codes ",") (replicate 73 98) (codes ",-1,0)")
    ≡ codes "product(" ++ replicate 68 97 ++ codes "...)," ++ replicate 68 98 ++ codes "...),-1,0)"
unfolding double_compound_id
cut_at_even_room = refl

-- lines(a..,0) leaves 151 bytes to its operand: where it has one more, 147 stay
pub one_just_fits : compound_id (codes "lines(") (replicate 151 97) (codes ",0)") ≡ codes "lines(" ++ replicate 151 97 ++ codes ",0)"
unfolding compound_id
one_just_fits = refl

pub one_cut : compound_id (codes "lines(") (replicate 152 97) (codes ",0)") ≡ codes "lines(" ++ replicate 147 97 ++ codes "...),0)"
unfolding compound_id
one_cut = refl
