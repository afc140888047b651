use Rattle.std.proofs.Common.{◌≢◌, [], ◌∙◌}
use Rattle.std.proofs.lemmas.List.Elements.{All-rest}
use Rattle.ps_client.specs.LocalWrites.{keeping}
use Rattle.ps_client.specs.States.{state}
use Rattle.ps_rows.specs.declared.changes.Change.{Change}
use Rattle.ps_syncing.specs.Runs.{written_all}
use Rattle.ps_syncing.proofs.Stepping.{written_more}
use Rattle.ps_syncing.proofs.runs.write_all.Goals as goal

pub changes-preserved : goal.changes-preserved
changes-preserved g c =
    let rest = c.changes.change-iterator.rest.items in
    let left = c.next.new.self.rest.items in
    record {
      written = written_more rest left c.in-Some.change (state c.changes.client) (state c.write_local.new.self)
          (keeping (written_all c.args.changes (state c.args.client.now).kept) (state c.args.client.now)) c.in-Some.ensures.steps.0 c.in-Ok.ensures.ok c.changes.invariant.written;
      tables = All-rest (λ (change : Change). change.table ≢ []) c.in-Some.change left rest c.in-Some.ensures.steps.0 c.changes.invariant.tables;
      name = c.in-Ok.ensures.name ∙ c.changes.invariant.name;
      kept = c.in-Ok.ensures.quiet ∙ c.changes.invariant.kept;
    }
