use Rattle.std.proofs.Common.{◌≡◌, ◌≤◌, ◌∙◌, ℕ, All, get_or, map, nat_abs, pos, sym, subst}
use Rattle.std.specs.Prelude.{IfSome}
use Rattle.std.proofs.lemmas.Bool.{OnTrue_at, OnTrue_from}
use Rattle.std.specs.Bool.{OnTrue}
use Rattle.std.specs.List.{Contains}
use Rattle.sgb_vec.specs.Boxes.{box}
use Rattle.sgb_vec.proofs.BoxPlaces.{IsBelow-from_Contains}
use Rattle.sgb_moves.specs.Moves.{sides_of}
use Rattle.sgb_moves.specs.inner.EntryBounds.{displacements_within, entry_bounds}
use Rattle.sgb_moves.specs.inner.MovedCoordinates.{StayAtOne}
use Rattle.sgb_gen.specs.inner.StraightLists.{AreOnward}
use Rattle.sgb_gen.specs.inner.Strides.{stride_of}
use Rattle.sgb_gen.proofs.InsideRuns.{all_runs}
use Rattle.sgb_gen.proofs.InsideVertices.{stay_inside}
use Rattle.sgb_gen.proofs.RunsOfLists.{widths_in_table}
use Rattle.sgb_gen.proofs.StrideTips.{all_by_strides, leads_handed, strides_handed}
use Rattle.sgb_gen.proofs.accepted.boards.board_lists.BoardLists.give.Goals as goal

pub is_inside-near-requires : goal.is_inside-near-requires
is_inside-near-requires g c =
    IsBelow-from_Contains c.self.inside.board.now.sizes c.args.x.now (subst (λ b. Contains (box b.sizes) c.args.x.now) (sym c.self.view_is) c.requires.member)

pub give_runs-requires-clause-runs : goal.give_runs-requires-clause-runs
give_runs-requires-clause-runs g c =
    let l = c.self.inside in
    let b = l.board.now in
    let ts = c.in-Some.table in
    let x = c.args.x.now in
    let kept = c.self.invariant in
    let below = IsBelow-from_Contains b.sizes x (subst (λ d. Contains (box d.sizes) x) (sym c.self.view_is) c.requires.member) in
    let is : ts ≡ displacements_within (nat_abs b.piece) (entry_bounds (nat_abs b.piece) (sides_of b.sizes b.wrap)) =
    subst (λ o. IfSome o (λ d. d ≡ displacements_within (nat_abs b.piece) (entry_bounds (nat_abs b.piece) (sides_of b.sizes b.wrap)))) c.in-Some.is kept.0 in
    let small : All (All (λ e. nat_abs e ≤ l.widest)) ts = subst (λ o. IfSome o (All (All (λ e. nat_abs e ≤ l.widest)))) c.in-Some.is kept.2 in
    let onward : OnTrue l.straight (AreOnward b.wrap ts) = subst (λ o. OnTrue l.straight (IfSome o (AreOnward b.wrap))) c.in-Some.is kept.1 in
    let flat : OnTrue l.leaping (AreOnward (pos 0) ts) = subst (λ o. OnTrue l.leaping (IfSome o (AreOnward (pos 0)))) c.in-Some.is kept.4 in
    all_runs b x ts l.widest l.straight l.leaping c.is_inside-near.result (sym c.have_runs.ensures ∙ c.if-have_runs.true) below (widths_in_table b ts is) small onward kept.3 flat c.is_inside-near.ensures

pub give_runs-requires-clause-near : goal.give_runs-requires-clause-near
give_runs-requires-clause-near g c =
    let l = c.self.inside in
    let b = l.board.now in
    let ts = c.in-Some.table in
    let kept = c.self.invariant in
    let is : ts ≡ displacements_within (nat_abs b.piece) (entry_bounds (nat_abs b.piece) (sides_of b.sizes b.wrap)) =
    subst (λ o. IfSome o (λ d. d ≡ displacements_within (nat_abs b.piece) (entry_bounds (nat_abs b.piece) (sides_of b.sizes b.wrap)))) c.in-Some.is kept.0 in
    let small : All (All (λ e. nat_abs e ≤ l.widest)) ts = subst (λ o. IfSome o (All (All (λ e. nat_abs e ≤ l.widest)))) c.in-Some.is kept.2 in
    let wide = widths_in_table b ts is in
    OnTrue_from c.is_inside-near.result (All (StayAtOne b.sizes b.wrap c.args.x.now) ts)
    (λ yes k d h. stay_inside b.sizes b.wrap c.args.x.now l.widest (OnTrue_at yes c.is_inside-near.ensures) (get_or ts k d) (wide k d h) (small k d h))

pub give_runs-requires-clause-strides : goal.give_runs-requires-clause-strides
give_runs-requires-clause-strides g c =
    let l = c.self.inside in
    let b = l.board.now in
    let zs = map (stride_of b.sizes) c.in-Some.table in
    let kept = subst (λ o. IfSome l.strides (λ s. IfSome o (λ d. map (λ (n : ℕ). pos n) s.items ≡ map (stride_of b.sizes) d))) c.in-Some.is c.self.invariant.5 in
    strides_handed (λ s. s.items) (λ h. h.now) l.strides c.kept_strides-strides.result zs kept c.kept_strides-strides.ensures.kept c.kept_strides-strides.ensures.none

pub give_runs-requires-clause-leads : goal.give_runs-requires-clause-leads
give_runs-requires-clause-leads g c =
    let l = c.self.inside in
    let b = l.board.now in
    let x = c.args.x.now in
    let ts = c.in-Some.table in
    let small : All (All (λ e. nat_abs e ≤ l.widest)) ts = subst (λ o. IfSome o (All (All (λ e. nat_abs e ≤ l.widest)))) c.in-Some.is c.self.invariant.2 in
    leads_handed c.kept_strides-strides.result c.have_strides-flat.result c.kept_strides-strides.ensures.have
    (λ have. all_by_strides b x ts l.widest l.straight c.is_flat.result l.leaping c.is_inside-near.result (sym c.have_strides-flat.ensures ∙ have) c.is_flat.ensures.flat c.self.invariant.3 c.is_inside-near.ensures small)
