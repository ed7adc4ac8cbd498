use Rattle.std.proofs.Common.{◌≡◌, ◌∙◌, ◌++◌, List, ℕ, sym, ap, append_assoc}
use Rattle.sgb.specs.Texts.{blocks, head}
use Rattle.sgb.proofs.writing.listing.write_titled_listing.Goals as goal

pub returns-clause-written : goal.returns-clause-written
returns-clause-written g c =
    let title = c.args.title.now in
    let graph = c.args.graph.now in
    let page : c.push_head.new.page ≡ title ++ head graph =
    c.push_head.ensures ∙ ap (λ (text : List ℕ). text ++ head graph) (c.push_text.ensures.put ∙ ap (λ (text : List ℕ). text ++ title) c.new-page.ensures) in
    rw (sym (append_assoc title (head graph) (blocks graph 0)), sym page) c.write_blocks.ensures.written
