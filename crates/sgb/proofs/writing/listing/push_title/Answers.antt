use Rattle.std.proofs.Common.{rules, ◌≡◌, ◌++◌, codes, decimal, append_assoc}
use Rattle.sgb.specs.inner.Texts.{title_text}
use Rattle.sgb.proofs.writing.listing.push_title.Goals as goal

pub returns-clause-text : goal.returns-clause-text
unfolding title_text
returns-clause-text c =
    let before = c.args.page.now ++ codes "  The graph whose official name is\n" ++ c.args.id.now ++ codes "\n  has " in
    let whole : before ++ decimal c.args.n ++ codes " vertices and " ≡ c.args.page.now ++ title_text c.args.id.now c.args.n = simp append_assoc in
    cc
