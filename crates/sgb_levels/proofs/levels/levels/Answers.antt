use Rattle.std.proofs.Common.{◌∙◌, sym, rules, arith}
use Rattle.sgb_levels.proofs.Searching.{level_within, searched-all, searched_next}
use Rattle.sgb_levels.proofs.levels.levels.Goals as goal

pub next_level-requires-clause-level : goal.next_level-requires-clause-level
next_level-requires-clause-level c =
    rw c.deref.ensures.value (level_within c.args.graph.now c.loop-alloc.distance c.loop-alloc.found.items c.loop-alloc.level.items c.loop-alloc.invariant.searched)

pub loop-alloc-smaller : goal.loop-alloc-smaller
loop-alloc-smaller c =
    let marks = rw (c.deref.ensures.value, c.as_mut_slice-in-loop-alloc.ensures.value) at c.in_ok-level-2.ensures.marks in
    let size = c.next_level.ensures.size ∙ c.as_mut_slice-in-loop-alloc.ensures.len in
    let some = sym c.is_empty.ensures ∙ c.loop-alloc-test.true in
    (searched_next _ _ c.loop-alloc.level.len _ _ _ c.loop-alloc.level.items _ c.n.ensures.kept c.loop-alloc.invariant.searched (search rules) some size marks).1

pub loop-alloc-preserved : goal.loop-alloc-preserved
loop-alloc-preserved c =
    let marks = rw (c.deref.ensures.value, c.as_mut_slice-in-loop-alloc.ensures.value) at c.in_ok-level-2.ensures.marks in
    let size = c.next_level.ensures.size ∙ c.as_mut_slice-in-loop-alloc.ensures.len in
    let some = sym c.is_empty.ensures ∙ c.loop-alloc-test.true in
    let more = searched_next _ _ c.loop-alloc.level.len _ _ _ c.loop-alloc.level.items _ c.n.ensures.kept c.loop-alloc.invariant.searched (search rules) some size marks in
    record { searched = more.0; left = omega (arith, more.1, c.loop-alloc.invariant.left) }

pub returns-clause-distances : goal.returns-clause-distances
returns-clause-distances c =
    searched-all _ _ c.loop-alloc.level.len c.loop-alloc.found.items c.loop-alloc.level.items (search rules) (sym c.is_empty.ensures ∙ c.loop-alloc-test.false) c.loop-alloc.invariant.searched
