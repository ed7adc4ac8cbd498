use Rattle.std.proofs.Common.{◌∙◌, ◌++◌, ap}
use Rattle.sgb.specs.inner.Texts.{title_text}
use Rattle.sgb.proofs.Pages.{paged_kept, paged_put}
use Rattle.sgb.proofs.writing.families.put_title.Goals as goal

pub returns-then-now-clause-paged : goal.returns-then-now-clause-paged
returns-then-now-clause-paged g c =
    let put = rw (c.push_title.ensures.text, c.requires.empty) at c.put_page.ensures.written in
    paged_put _ _ _ _ c.put_page.ensures.empty put

pub returns-clause-paged : goal.returns-clause-paged
returns-clause-paged g c = paged_kept _ _ _ _ (c.push_title.ensures.text ∙ ap (λ page. page ++ title_text c.args.id.now c.args.n) c.requires.empty) c.requires.sound
