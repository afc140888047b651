use Rattle.std.proofs.Common.{List, [], append-nil, subst}
use Rattle.ps_lock.specs.Words.{seen_by}
use Rattle.ps_rows.specs.declared.changes.Transaction.{Transaction}
use Rattle.ps_workers.specs.Sharing.{fixed_of}
use Rattle.ps_workers.specs.Work.{EndsWriting}
use Rattle.ps_serving.proofs.running.write.Goals as goal

pub returns-clause-wrote : goal.returns-clause-wrote
returns-clause-wrote g c =
    let work = c.feed_and_write.ensures.work in
    record {
      seen = seen_by c.feed_and_write.result.0;
      later = work.written.worked.saw;
      earlier = ([], append-nil (seen_by c.feed_and_write.result.0));
      fed = work.fed;
      ends = subst (λ (given : List Transaction). EndsWriting (fixed_of c.args.lock.now) c.args.next (seen_by c.feed_and_write.result.0) given work.fed c.feed_and_write.result.1)
          c.new-nothing.ensures.items work.ends;
    }
