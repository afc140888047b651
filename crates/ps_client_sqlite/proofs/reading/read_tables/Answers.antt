use Rattle.std.proofs.Common.{map, subst, ◌∙◌}
use Rattle.sqlite.specs.Held.{state}
use Rattle.ps_client_tables.specs.Tables.{Tables}
use Rattle.ps_client_tables.specs.Lines.{entry_line, queued_line, aim_line, shown_line}
use Rattle.ps_client_sqlite.specs.Reading.{Alike, AreCells, AreRead}
use Rattle.ps_client_sqlite.proofs.Turning.{client_then, tables_then, unchanged_then}
use Rattle.ps_client_sqlite.proofs.reading.read_tables.Goals as goal

pub returns-clause-read : goal.returns-clause-read
returns-clause-read g c clean client =
    let s0 = state g.S.Store c.args.conn.now in
    let s1 = state g.S.Store c.bucket_rows.new.conn in
    let s2 = state g.S.Store c.entry_rows.new.conn in
    let s3 = state g.S.Store c.queue_rows.new.conn in
    let s4 = state g.S.Store c.aim_rows.new.conn in
    let clean4 = c.shown_rows.ensures.clean clean in
    let clean3 = c.aim_rows.ensures.clean clean4 in
    let clean2 = c.queue_rows.ensures.clean clean3 in
    let clean1 = c.entry_rows.ensures.clean clean2 in
    let same1 = c.in_ok-buckets.ensures.same clean1 client in
    let client1 = client_then s0 s1 same1 client in
    let same2 = c.in_ok-entries.ensures.same clean2 client1 in
    let client2 = client_then s1 s2 same2 client1 in
    let same3 = c.in_ok-queue.ensures.same clean3 client2 in
    let client3 = client_then s2 s3 same3 client2 in
    let same4 = c.in_ok-aim.ensures.same clean4 client3 in
    let client4 = client_then s3 s4 same4 client3 in
    let tables1 = tables_then s0 s1 same1 in
    let tables2 = tables_then s1 s2 same2 ∙ tables1 in
    let tables3 = tables_then s2 s3 same3 ∙ tables2 in
    let tables4 = tables_then s3 s4 same4 ∙ tables3 in
    record {
      buckets = c.in_ok-buckets.ensures.read clean1 client;
      entries = subst (λ (t : Tables). AreRead (map entry_line t.entries) c.in_ok-entries.entries) tables1 (c.in_ok-entries.ensures.read clean2 client1);
      queue = subst (λ (t : Tables). Alike AreCells (map queued_line t.queue) c.in_ok-queue.queue) tables2 (c.in_ok-queue.ensures.read clean3 client2);
      aim = subst (λ (t : Tables). AreRead (map aim_line t.aim) c.in_ok-aim.aim) tables3 (c.in_ok-aim.ensures.read clean4 client3);
      shown = subst (λ (t : Tables). AreRead (map shown_line t.shown) c.in_ok-shown.shown) tables4 (c.in_ok-shown.ensures.read clean client4);
      buckets_stand = c.in_ok-buckets.ensures.stand clean1 client;
      entries_stand = c.in_ok-entries.ensures.stand clean2 client1;
    }

pub returns-clause-same : goal.returns-clause-same
returns-clause-same g c clean client =
    let s0 = state g.S.Store c.args.conn.now in
    let s1 = state g.S.Store c.bucket_rows.new.conn in
    let s2 = state g.S.Store c.entry_rows.new.conn in
    let s3 = state g.S.Store c.queue_rows.new.conn in
    let s4 = state g.S.Store c.aim_rows.new.conn in
    let s5 = state g.S.Store c.shown_rows.new.conn in
    let clean4 = c.shown_rows.ensures.clean clean in
    let clean3 = c.aim_rows.ensures.clean clean4 in
    let clean2 = c.queue_rows.ensures.clean clean3 in
    let clean1 = c.entry_rows.ensures.clean clean2 in
    let same1 = c.in_ok-buckets.ensures.same clean1 client in
    let client1 = client_then s0 s1 same1 client in
    let same2 = c.in_ok-entries.ensures.same clean2 client1 in
    let client2 = client_then s1 s2 same2 client1 in
    let same3 = c.in_ok-queue.ensures.same clean3 client2 in
    let client3 = client_then s2 s3 same3 client2 in
    let same4 = c.in_ok-aim.ensures.same clean4 client3 in
    let client4 = client_then s3 s4 same4 client3 in
    let same5 = c.in_ok-shown.ensures.same clean client4 in
    unchanged_then s0 s1 s5 same1 (unchanged_then s1 s2 s5 same2 (unchanged_then s2 s3 s5 same3 (unchanged_then s3 s4 s5 same4 same5)))

pub returns-in_err-buckets-clause-kept : goal.returns-in_err-buckets-clause-kept
returns-in_err-buckets-clause-kept g c stored kept = c.bucket_rows.ensures.kept stored kept

pub returns-in_err-entries-clause-kept : goal.returns-in_err-entries-clause-kept
returns-in_err-entries-clause-kept g c stored kept = c.entry_rows.ensures.kept stored (c.bucket_rows.ensures.kept stored kept)

pub returns-in_err-queue-clause-kept : goal.returns-in_err-queue-clause-kept
returns-in_err-queue-clause-kept g c stored kept = c.queue_rows.ensures.kept stored (c.entry_rows.ensures.kept stored (c.bucket_rows.ensures.kept stored kept))

pub returns-in_err-aim-clause-kept : goal.returns-in_err-aim-clause-kept
returns-in_err-aim-clause-kept g c stored kept = c.aim_rows.ensures.kept stored (c.queue_rows.ensures.kept stored (c.entry_rows.ensures.kept stored (c.bucket_rows.ensures.kept stored kept)))

pub returns-in_err-shown-clause-kept : goal.returns-in_err-shown-clause-kept
returns-in_err-shown-clause-kept g c stored kept =
    c.shown_rows.ensures.kept stored (c.aim_rows.ensures.kept stored (c.queue_rows.ensures.kept stored (c.entry_rows.ensures.kept stored (c.bucket_rows.ensures.kept stored kept))))

pub returns-clause-kept : goal.returns-clause-kept
returns-clause-kept g c stored kept =
    c.shown_rows.ensures.kept stored (c.aim_rows.ensures.kept stored (c.queue_rows.ensures.kept stored (c.entry_rows.ensures.kept stored (c.bucket_rows.ensures.kept stored kept))))
