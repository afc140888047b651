use Rattle.ps_snapshot.proofs.Keeping.{changes_hold, none_open}
use Rattle.ps_snapshot.proofs.progress.Progress.changes.Goals as goal
use Rattle.ps_snapshot.proofs.progress.Progress.changes.Goals.{then-not-self+in_ok-note_changes, else-not-self}

pub returns : goal.returns
returns c = λ copy h.
    elim c.if-not-self.branch [
      | then-not-self+in_ok-note_changes w ↦
          changes_hold copy c.args.transaction.now c.args.self.now c.if-not-self.self w.note_changes.new.changed h w.self-is (λ open_ key. w.in_ok-note_changes.ensures key)
      | else-not-self w ↦
          changes_hold copy c.args.transaction.now c.args.self.now c.if-not-self.self c.args.self.now.changed h w.self-is
          (λ open_ key. absurd (let n = none_open copy c.args.self.now.ended h.ended w.if-not-self.false open_ in cc))
    ]
