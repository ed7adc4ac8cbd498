use Rattle.std.proofs.Common.{◌∙◌, true≢false, refl, rules, subst, sym}
use Rattle.sgb_vec.specs.Lexicographic.{IsRising}
use Rattle.sgb.specs.inner.Pages.{page_bytes}
use Rattle.sgb.specs.inner.Texts.{most_line_bytes}
use Rattle.sgb.proofs.CertainAnswers.{head_asked, write_alone}
use Rattle.sgb.proofs.CutOff.{cut_more, exit_cut, exit_kept, exit_write, written_after}
use Rattle.sgb.proofs.LocalListings.{blocks_of_rest}
use Rattle.sgb.proofs.writing.families.list_vectors.Goals as goal

pub returns-in_err-put_head_if-clause-written : goal.returns-in_err-put_head_if-clause-written
returns-in_err-put_head_if-clause-written g c = exit_cut _ _ _ _ c.from_residual.ensures.1 (cut_more _ _ _ _ c.in_err-put_head_if.ensures.written)

-- without a head nothing is out of memory before the blocks
pub returns-in_err-put_head_if-clause-end : goal.returns-in_err-put_head_if-clause-end
returns-in_err-put_head_if-clause-end g c = λ plain none. absurd (true≢false (sym (c.in_err-put_head_if.ensures.none plain)))

-- nor of subsets
pub returns-in_err-put_head_if-clause-subsets : goal.returns-in_err-put_head_if-clause-subsets
returns-in_err-put_head_if-clause-subsets g c = λ same. exit_write _ _ c.from_residual.ensures.1 (c.in_err-put_head_if.ensures.subsets same)

pub returns-in_err-put_head_if-clause-simplex : goal.returns-in_err-put_head_if-clause-simplex
returns-in_err-put_head_if-clause-simplex g c = λ same.
    exit_kept _ _ _ c.from_residual.ensures.1 (λ other. (head_asked c.args.head (λ plain. absurd (true≢false (sym (c.in_err-put_head_if.ensures.none plain)))), c.in_err-put_head_if.ensures.simplex same other))

-- of what is no `BoardLists` what comes before the blocks is all that wants memory
pub returns-in_err-put_head_if-clause-untouched : goal.returns-in_err-put_head_if-clause-untouched
returns-in_err-put_head_if-clause-untouched g c = λ sort. exit_kept _ _ _ c.from_residual.ensures.1 c.in_err-put_head_if.ensures.untouched

pub write_blocks-requires : goal.write_blocks-requires
write_blocks-requires g c =
    let rest = rw c.family.ensures.members at c.vectors_after-vectors.ensures in
    rw c.prepare.ensures.same (λ k. ((refl, tt), ((_, rest), (c.in_ok-put_head_if.ensures.empty, c.in_ok-put_head_if.ensures.written.sound))))

pub returns : goal.returns
returns g c =
    let graph = g.L.Listed.graph c.args.listed.now in
    let rise : IsRising graph.vectors = subst IsRising c.family.ensures.members (g.met.L.Members.Family.rising c.family.result.now) in
    let rest = rw c.family.ensures.members at c.vectors_after-vectors.ensures in
    let blocks = rw c.prepare.ensures.same at c.write_blocks.ensures.written in
    record {
      written = rw (blocks_of_rest graph rise c.family.ensures.ends _ _ rest) (written_after _ _ _ _ _ _ _ c.in_ok-put_head_if.ensures.written.output blocks);
      end = λ plain none. c.write_blocks.ensures.end (rest ∙ none);
      subsets = λ same. c.write_blocks.ensures.fault (λ board. let is = sym c.prepare.ensures.sort ∙ board in absurd cc);
      simplex = λ same. write_alone _ _ (c.write_blocks.ensures.fault (λ board. let is = sym c.prepare.ensures.sort ∙ board in absurd cc));
      untouched = λ other. write_alone _ _ (c.write_blocks.ensures.fault (λ board. other (sym c.prepare.ensures.sort ∙ board)));
    }
