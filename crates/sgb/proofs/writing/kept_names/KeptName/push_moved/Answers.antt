use Rattle.std.proofs.Common.{◌≡◌, ◌+◌, ◌∷◌, [], ◌∙◌, ℕ, pos, w32, length, length-append, drop, set, slice_index_or, refl, sym, ap, arith, rules, append-nil}
use Rattle.std.specs.Option.{unwrap_or}
use Rattle.std.proofs.lemmas.Int.{to_z-of_z}
use Rattle.std.proofs.lemmas.List.{at_drop_more, drop_all, length-drop}
use Rattle.sgb_vec.specs.Names.{name_of_vector}
use Rattle.sgb_moves.specs.MovedCoordinates.{part_at, parts_put}
use Rattle.sgb.proofs.KeptNames.{kept-back}
use Rattle.sgb.proofs.MovedNames.{moved-all, moved-more, moved-none, moved-order}
use Rattle.sgb.proofs.NameEntries.{name-entries}
use Rattle.sgb.proofs.writing.kept_names.KeptName.push_moved.Goals as goal

pub loop-k-init : goal.loop-k-init
loop-k-init c = record {
  moved = moved-none (parts_put c.args.span.now.sizes c.args.span.now.wrap c.args.self.now c.args.l) _ _ _ (rw (← c.requires.named) at c.parts-k-items.ensures.moved) (rw (name-entries []) (sym (append-nil _)));
  short = omega arith;
  within = omega arith;
}

pub loop-k-preserved : goal.loop-k-preserved
loop-k-preserved c =
    let r = c.args.span.now in
    let put = parts_put r.sizes r.wrap c.args.self.now c.args.l in
    let items = c.parts-k-items.result.now in
    let same = c.parts-k-items.ensures.same in
    let p = slice_index_or items c.loop-k.k-index (0, pos 0) in
    let rest = drop (c.loop-k.k-index + 1) r.parts in
    let first : drop c.loop-k.k-index r.parts ≡ p ∷ rest =
    ap (drop c.loop-k.k-index) (sym same) ∙ at_drop_more (λ us. us) items c.loop-k.k-index (0, pos 0) (omega arith) ∙ ap (λ us. p ∷ drop (c.loop-k.k-index + 1) us) same in
    let value : c.entry_at.result ≡ unwrap_or (part_at r.sizes r.wrap c.args.self.now c.args.l p) 0 = rw (c.entry_at.ensures, to_z-of_z w32 p.1 (search rules), c.requires.named) refl in
    let order = moved-order put _ _ p _ rest c.loop-k.place _ _ first c.loop-k.invariant.moved in
    record {
      moved = moved-more put _ _ p _ rest c.loop-k.place p.0 c.entry_at.result _ _ _ first refl (λ u. ap (λ (e : ℕ). put rest (set u p.0 e)) (sym value)) c.push_through.ensures.text c.loop-k.invariant.moved;
      short = omega (arith, c.push_through.ensures.short, c.loop-k.invariant.short, order.0);
      within = omega (arith, order.1);
    }

pub push_rest_of-requires : goal.push_rest_of-requires
push_rest_of-requires c =
    let back = kept-back _ _ _ _ _ _ c.self.invariant c.self.view_is c.loop-k.invariant.within c.end_of.ensures.value in
    (omega arith, (omega arith, (back.0, omega (arith, back.1, c.loop-k.invariant.short, c.loop-k.invariant.within, c.requires.room))))

pub returns : goal.returns
returns c =
    let r = c.args.span.now in
    let text = c.self.inside.text in
    let none = drop_all c.loop-k.k-index c.args.span.now.parts (omega (arith, ap length c.parts-k-items.ensures.same)) in
    let name = c.self.invariant.name ∙ ap name_of_vector c.self.view_is in
    let back = kept-back _ _ _ _ _ _ c.self.invariant c.self.view_is c.loop-k.invariant.within c.end_of.ensures.value in
    record {
      text = moved-all (parts_put r.sizes r.wrap c.args.self.now c.args.l) _ _ text _ _ _ _ _ _ none (λ u. refl) name c.end_of.ensures.value c.push_rest_of.ensures c.loop-k.invariant.moved;
      short = omega (arith, back, ap length c.push_rest_of.ensures, length-append c.loop-k.page (drop c.end_of.result text), length-drop c.end_of.result text, c.loop-k.invariant.short, c.loop-k.invariant.within);
    }
