use Rattle.std.proofs.Common.{[], ◌∷◌, ◌++◌}
use Rattle.ps_store.specs.declared.events.Event.TheVariants.{Close}
use Rattle.service_cases.proofs.Staying.{stays}
use Rattle.service_cases.proofs.serving.stores.close.Goals as goal

pub returns : goal.returns
returns c =
    let r = c.requires in
    stays r.0 r.1 c.args.store.now r.2 c.close_feed.new.self (r.1 ++ Close ∷ []) (c.close_feed.ensures r.0 r.1 r.2)
