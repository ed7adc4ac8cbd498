-- The laws of the families: their vectors rise, and each has as many entries as the family has places. They are proved in
-- specs/inner, since the code of an impl names their proofs; lemmas cite them from here.
pub use Rattle.sgb_vec.specs.inner.BoxWidth.{length-box_member}
pub use Rattle.sgb_vec.specs.inner.SumWidth.{length-sum_member}
pub use Rattle.sgb_vec.specs.inner.Rising.{box_vectors_rise, sum_vectors_rise}
