-- Where answers begin, by the values of `--after` and `--skip`.
use Rattle.std.proofs.Common.{◌≡◌, List, Option, sym, subst, codes, arith}
use Rattle.clap.specs.Words.{Row, Text, first_of}
use Rattle.sgb_requests.specs.Requests.{IsResumeOf}
use Rattle.sgb_requests.specs.declared.requests.Resume.{Resume}

-- in one place
pub begins_once : (after skip : Option Text) (one other : Resume) → IsResumeOf after skip one → IsResumeOf after skip other → one ≡ other
begins_once after skip one other is other_is = grind (arith)

-- by the matches that give these values
pub begins_by : (rows : List Row) (after skip : Option Text) (resume : Resume) → first_of (codes "after") rows ≡ after → first_of (codes "skip") rows ≡ skip → IsResumeOf after skip resume
    → IsResumeOf (first_of (codes "after") rows) (first_of (codes "skip") rows) resume
begins_by rows after skip resume e f is =
    subst (λ (a : Option Text). IsResumeOf a (first_of (codes "skip") rows) resume) (sym e) (subst (λ (s : Option Text). IsResumeOf after s resume) (sym f) is)

-- and back
pub begins_given : (rows : List Row) (after skip : Option Text) (resume : Resume) → first_of (codes "after") rows ≡ after → first_of (codes "skip") rows ≡ skip
    → IsResumeOf (first_of (codes "after") rows) (first_of (codes "skip") rows) resume → IsResumeOf after skip resume
begins_given rows after skip resume e f is =
    subst (λ (a : Option Text). IsResumeOf a skip resume) e (subst (λ (s : Option Text). IsResumeOf (first_of (codes "after") rows) s resume) f is)
