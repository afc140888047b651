use Rattle.std.proofs.Common.{◌≡◌, drop, sym, ap, ◌∙◌}
use Rattle.std.proofs.lemmas.List.{drop-drop}
use Rattle.ps_client_log.specs.Queues.{QueueState}
use Rattle.ps_client_log.proofs.queues.Queue.pop.Goals as goal

pub returns-clause-items : goal.returns-clause-items
returns-clause-items c =
    let before : drop c.self.inside.left c.self.inside.changes.items ≡ c.args.self.now.items = ap (λ (queue : QueueState). queue.items) c.self.view_is in
    sym (drop-drop 1 c.self.inside.left c.self.inside.changes.items) ∙ ap (drop 1) before
