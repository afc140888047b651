use Rattle.std.proofs.Common.{w64, rules}
use mir.Val.{SFits}
use Rattle.std.proofs.lemmas.Int.{to_z-of_z}
use Rattle.std.proofs.lemmas.Result.{IfOk-weaker}
use Rattle.sqlite.specs.Held.{state}
use Rattle.ps_client_sqlite.proofs.Written.{puts_bucket, drops_bucket, puts_entry, drops_entry, puts_queued, drops_queued, puts_shown, drops_shown}
use Rattle.ps_client_sqlite.proofs.writing.write_row.Goals as goal

pub returns-in-PutBucket-clause-written : goal.returns-in-PutBucket-clause-written
returns-in-PutBucket-clause-written g c clean inside =
    rw c.in-PutBucket.is (IfOk-weaker c.put_bucket.result _ _ (λ _ turns. puts_bucket (state g.S.Store c.args.tx.now.conn.now) (state g.S.Store c.put_bucket.new.tx.conn.now) inside c.in-PutBucket.name c.in-PutBucket.position c.in-PutBucket.added turns)
    (c.put_bucket.ensures.put clean inside))

pub returns-in-DropBucket-clause-written : goal.returns-in-DropBucket-clause-written
returns-in-DropBucket-clause-written g c clean inside =
    rw c.in-DropBucket.is (IfOk-weaker c.drop_bucket.result _ _ (λ _ turns. drops_bucket (state g.S.Store c.args.tx.now.conn.now) (state g.S.Store c.drop_bucket.new.tx.conn.now) inside c.in-DropBucket.name turns)
    (c.drop_bucket.ensures.dropped clean inside))

pub returns-in-PutEntry-clause-written : goal.returns-in-PutEntry-clause-written
returns-in-PutEntry-clause-written g c clean inside =
    rw c.in-PutEntry.is (IfOk-weaker c.put_entry.result _ _ (λ _ turns. puts_entry (state g.S.Store c.args.tx.now.conn.now) (state g.S.Store c.put_entry.new.tx.conn.now) inside c.in-PutEntry.bucket c.in-PutEntry.held turns)
    (c.put_entry.ensures.put clean inside))

pub returns-in-DropEntry-clause-written : goal.returns-in-DropEntry-clause-written
returns-in-DropEntry-clause-written g c clean inside =
    rw c.in-DropEntry.is (IfOk-weaker c.drop_entry.result _ _ (λ _ turns. drops_entry (state g.S.Store c.args.tx.now.conn.now) (state g.S.Store c.drop_entry.new.tx.conn.now) inside c.in-DropEntry.bucket c.in-DropEntry.key turns)
    (c.drop_entry.ensures.dropped clean inside))

pub returns-in-PutQueued-clause-written : goal.returns-in-PutQueued-clause-written
returns-in-PutQueued-clause-written g c clean inside =
    let fits : SFits w64 c.in-PutQueued.seq = search rules in
    rw c.in-PutQueued.is (IfOk-weaker c.put_queued.result _ _ (λ _ turns. puts_queued (state g.S.Store c.args.tx.now.conn.now) (state g.S.Store c.put_queued.new.tx.conn.now) inside c.in-PutQueued.seq c.in-PutQueued.text turns)
    (rw (to_z-of_z w64 c.in-PutQueued.seq fits) at (c.put_queued.ensures.put clean inside)))

pub returns-in-DropQueued-clause-written : goal.returns-in-DropQueued-clause-written
returns-in-DropQueued-clause-written g c clean inside =
    let fits : SFits w64 c.in-DropQueued.seq = search rules in
    rw c.in-DropQueued.is (IfOk-weaker c.drop_queued.result _ _ (λ _ turns. drops_queued (state g.S.Store c.args.tx.now.conn.now) (state g.S.Store c.drop_queued.new.tx.conn.now) inside c.in-DropQueued.seq turns)
    (rw (to_z-of_z w64 c.in-DropQueued.seq fits) at (c.drop_queued.ensures.dropped clean inside)))

pub returns-in-PutShown-clause-written : goal.returns-in-PutShown-clause-written
returns-in-PutShown-clause-written g c clean inside =
    rw c.in-PutShown.is (IfOk-weaker c.put_shown.result _ _ (λ _ turns. puts_shown (state g.S.Store c.args.tx.now.conn.now) (state g.S.Store c.put_shown.new.tx.conn.now) inside c.in-PutShown.row turns)
    (c.put_shown.ensures.put clean inside))

pub returns-in-DropShown-clause-written : goal.returns-in-DropShown-clause-written
returns-in-DropShown-clause-written g c clean inside =
    rw c.in-DropShown.is (IfOk-weaker c.drop_shown.result _ _ (λ _ turns. drops_shown (state g.S.Store c.args.tx.now.conn.now) (state g.S.Store c.drop_shown.new.tx.conn.now) inside c.in-DropShown.kind c.in-DropShown.id turns)
    (c.drop_shown.ensures.dropped clean inside))
