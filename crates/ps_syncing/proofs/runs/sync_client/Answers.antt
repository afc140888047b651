use Rattle.std.proofs.lemmas.List.Elements.{All-append}
use Rattle.std.proofs.lemmas.Result.{err_from_is_err_and}
use Rattle.ps_client.specs.States.{state}
use Rattle.ps_syncing.proofs.Failing.{Closes-more, FailsSo-later}
use Rattle.ps_syncing.proofs.LongLines.{short_aimed, short_uploaded}
use Rattle.ps_syncing.proofs.Stepping.{IsSynced-made}
use Rattle.ps_syncing.specs.Runs.{IsShort}
use Rattle.ps_syncing.proofs.runs.sync_client.Goals as goal

pub returns-in_err-aim-clause-fails : goal.returns-in_err-aim-clause-fails
returns-in_err-aim-clause-fails g c =
    let uploads = c.in_ok-upload_all.ensures.uploads in
    let p = err_from_is_err_and c.from_residual-in_err-aim.result c.from_residual-in_err-aim.ensures.1 in
    rw (p.1, p.2) (FailsSo-later c.args.service.now (g.L.Link.closed c.args.link.now) (g.L.Link.closed c.upload_all.new.link) (g.L.Link.closed c.aim.new.link)
    uploads.exchanges c.in_err-aim.field-0.0 uploads.closed (short_uploaded _ _ _ _ _ uploads) c.in_err-aim.ensures.fails)

pub returns-in_err-stream_until_applied-clause-fails : goal.returns-in_err-stream_until_applied-clause-fails
returns-in_err-stream_until_applied-clause-fails g c =
    let uploads = c.in_ok-upload_all.ensures.uploads in
    let aims = c.in_ok-aim.ensures.aims in
    let p = err_from_is_err_and c.from_residual-in_err-stream_until_applied.result c.from_residual-in_err-stream_until_applied.ensures.1 in
    rw (p.1, p.2) (FailsSo-later c.args.service.now (g.L.Link.closed c.args.link.now) (g.L.Link.closed c.aim.new.link) (g.L.Link.closed c.stream_until_applied.new.link)
    _ c.in_err-stream_until_applied.field-0.0
    (Closes-more (g.L.Link.closed c.args.link.now) (g.L.Link.closed c.upload_all.new.link) (g.L.Link.closed c.aim.new.link) uploads.exchanges aims.exchanges uploads.closed aims.closed)
    (All-append IsShort uploads.exchanges aims.exchanges (short_uploaded _ _ _ _ _ uploads) (short_aimed _ _ _ _ _ aims))
    c.in_err-stream_until_applied.ensures.fails)

pub returns-clause-synced : goal.returns-clause-synced
returns-clause-synced g c =
    IsSynced-made c.args.service.now c.args.changes (state c.args.client.now) (state c.write_all.new.client) (state c.upload_all.new.client) (state c.aim.new.client)
    (state c.stream_until_applied.new.client) (g.L.Link.closed c.args.link.now) (g.L.Link.closed c.upload_all.new.link) (g.L.Link.closed c.aim.new.link)
    (g.L.Link.closed c.stream_until_applied.new.link) c.in_ok-write_all.ensures.written c.in_ok-upload_all.ensures.uploads c.in_ok-aim.ensures.aims
    c.in_ok-stream_until_applied.ensures.streams
