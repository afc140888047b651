use Rattle.std.proofs.Common.{◌≡◌, true, false, sym, rules, arith}
use Rattle.ps_queries.specs.Subjects.{speaks}
use Rattle.ps_queries.proofs.SubjectLaws.{any_more}
use Rattle.ps_queries.proofs.+speaking.Goals as goal

pub subjects::any_speaks_of-returns-then-speaks_of : goal.subjects::any_speaks_of-returns-then-speaks_of
subjects::any_speaks_of-returns-then-speaks_of t c =
    let one = c.one-item.result in
    let hit : speaks c.args.subject one ≡ true = search rules in
    sym (any_more c.args.subject _ c.args.all.now c.all.one-index one _ c.all.invariant (omega arith) c.one-item.is hit)

pub subjects::any_speaks_of-all-preserved : goal.subjects::any_speaks_of-all-preserved
subjects::any_speaks_of-all-preserved t c =
    let one = c.one-item.result in
    let missed : speaks c.args.subject one ≡ false = search rules in
    any_more c.args.subject _ c.args.all.now c.all.one-index one _ c.all.invariant (omega arith) c.one-item.is missed
