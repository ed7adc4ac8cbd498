-- The sorts of the graphs of vectors that are listed.

-- which generator a graph of vectors is from, and of a board whether its arcs are handed out with no list kept
pub data Sort : Type 0 where
  of_board : Sort
  of_ordered_board : Sort
  of_simplex : Sort
  of_subsets : Sort
