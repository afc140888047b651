use Rattle.std.proofs.Common.{sym}
use Rattle.ps_session.proofs.Changes.{same_lengths}
use Rattle.ps_session.proofs.diffs.same_buckets.Goals as goal

pub returns-then-old-new : goal.returns-then-old-new
returns-then-old-new c = sym (same_lengths c.args.old.now c.args.new.now c.if-old-new.true)
