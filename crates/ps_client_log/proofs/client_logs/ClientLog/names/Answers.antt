use Rattle.std.proofs.Common.{◌≡◌, ℕ, List, subst}
use Rattle.std.specs.Prelude.{IfOk, is_some, bytes_eq}
use Rattle.std.specs.List.{list_any}
use Rattle.ps_client_log.specs.Rooms.{kept_by}
use Rattle.ps_client_log.proofs.client_logs.ClientLog.names.Goals as goal

pub returns-clause-held : goal.returns-clause-held
returns-clause-held g c =
    subst (λ log. IfOk c.bucket_names.result (λ names. (name : List ℕ) → list_any (bytes_eq name) names.items ≡ is_some ((kept_by log.1).bucket name)))
    c.self.view_is c.bucket_names.ensures.held
