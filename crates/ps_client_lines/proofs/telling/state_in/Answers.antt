use Rattle.std.proofs.Common.{List, map, ap, ◌∙◌}
use Rattle.std.proofs.lemmas.Result.{err_from_is_err_and}
use Rattle.ps_client_lines.specs.declared.lines.Queued.{Queued}
use Rattle.ps_client_lines.specs.Refusing.{AreOfHolders, AreOfQueue}
use Rattle.ps_client_lines.proofs.Sound.{sound_state}
use Rattle.ps_client_lines.proofs.Blaming.{blames_first, blames_then, blames_last}
use Rattle.ps_client_lines.proofs.telling.state_in.Goals as goal

pub returns-clause-sound : goal.returns-clause-sound
returns-clause-sound c =
    sound_state (record { buckets = c.in_ok-buckets.buckets; queue = c.in_ok-queue.queue; target = c.in_ok-target.target; shown = c.in_ok-target.shown })
    c.in_ok-writes.writes c.in_ok-buckets.ensures.sound
    (c.in_ok-queue.ensures ∙ ap (λ (lines : List Queued). map (λ line. line.change) lines) c.as_slice.ensures) c.in_ok-writes.ensures.texts
    c.in_ok-target.ensures.target c.in_ok-target.ensures.objects

pub returns-in_err-buckets-clause-blames : goal.returns-in_err-buckets-clause-blames
returns-in_err-buckets-clause-blames c =
    let p = err_from_is_err_and c.from_residual.result c.from_residual.ensures.1 in
    rw (p.1, p.2) (blames_first c.args.rows.now c.in_err-buckets.field-0.0 c.in_err-buckets.ensures.blames)

pub returns-in_err-writes-clause-blames : goal.returns-in_err-writes-clause-blames
returns-in_err-writes-clause-blames c =
    let p = err_from_is_err_and c.from_residual-in_err-writes.result c.from_residual-in_err-writes.ensures.1 in
    let holders : AreOfHolders c.args.rows.now = (c.in_ok-buckets.buckets, c.in_ok-buckets.ensures.buckets, c.in_ok-buckets.ensures.entries, c.in_ok-buckets.ensures.sound) in
    rw (p.1, p.2) (blames_then c.args.rows.now c.in_err-writes.field-0.0 holders c.in_err-writes.ensures.blames)

pub returns-in_err-target-clause-blames : goal.returns-in_err-target-clause-blames
returns-in_err-target-clause-blames c =
    let p = err_from_is_err_and c.from_residual-in_err-target.result c.from_residual-in_err-target.ensures.1 in
    let holders : AreOfHolders c.args.rows.now = (c.in_ok-buckets.buckets, c.in_ok-buckets.ensures.buckets, c.in_ok-buckets.ensures.entries, c.in_ok-buckets.ensures.sound) in
    let queue : AreOfQueue c.args.rows.now = (c.in_ok-writes.writes, c.in_ok-writes.ensures.rows, c.in_ok-writes.ensures.rising, c.in_ok-writes.ensures.texts) in
    rw (p.1, p.2) (blames_last c.args.rows.now c.in_err-target.field-0.0 holders queue c.in_err-target.ensures.blames)
