use Rattle.std.proofs.Common.{subst}
use Rattle.ps_queries.specs.declared.askers.Asker.{Asker}
use Rattle.ps_due_rows.specs.Syncing.{AreSynced}
use Rattle.ps_files.specs.MadeRules.{made_rule_set}
use Rattle.ps_files.specs.ReadingChanges.{usual}
use Rattle.ps_commands.proofs.Summaries.{counted}
use Rattle.ps_commands.proofs.generating.count_rows.Goals as goal

pub synced_rows-requires : goal.synced_rows-requires
synced_rows-requires c = let h = c.requires.1 in (usual made_rule_set, h.history, h.stands)

pub returns-in-Ok : goal.returns-in-Ok
returns-in-Ok c = λ ts h.
    let synced : AreSynced (usual made_rule_set) h.history c.in_ok-asker.asker c.in-Ok.rows = rw c.in-Ok.is at (c.synced_rows.ensures (usual made_rule_set) h.history h.stands) in
    counted ts c.args.store.now h c.ledgers_tell_ops.ensures.one c.in-Ok.rows c.len.result
    (subst (λ (asker : Asker). AreSynced (usual made_rule_set) h.history asker c.in-Ok.rows) c.in_ok-asker.ensures synced) c.len.ensures
