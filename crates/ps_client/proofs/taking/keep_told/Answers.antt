use Rattle.std.proofs.Common.{◌≢◌, List, [], ℕ, ap, ◌∙◌, subst}
use Rattle.std.proofs.lemmas.Result.{on_ok_weaker}
use Rattle.ps_client_log.specs.Logs.{kept}
use Rattle.ps_client.specs.Clients.{without_buckets}
use Rattle.ps_client.specs.Commits.{KeepsUntold}
use Rattle.ps_client.proofs.Committing.{fails_weaker, untold_kept}
use Rattle.ps_client.proofs.Edits.{untold_go}
use Rattle.ps_client.proofs.taking.keep_told.Goals as goal

pub returns-clause-ok : goal.returns-clause-ok
returns-clause-ok g c =
    on_ok_weaker c.delete_all.result
    (λ is. is
    ∙ ap (λ (names : List (List ℕ)). without_buckets names (kept c.args.log.now)) c.untold-names.ensures
    ∙ untold_go c.args.told.now (kept c.args.log.now) c.in_ok-names.names.items c.in_ok-names.ensures.held) c.delete_all.ensures.ok

pub returns-clause-some : goal.returns-clause-some
returns-clause-some g c =
    fails_weaker c.delete_all.result _ (KeepsUntold c.args.told.now (kept c.args.log.now))
    (λ some. untold_kept c.args.told.now (kept c.args.log.now) c.in_ok-names.names.items c.in_ok-names.ensures.held
    (subst (λ (names : List (List ℕ)). names ≢ []) c.untold-names.ensures some)) c.delete_all.ensures.some
