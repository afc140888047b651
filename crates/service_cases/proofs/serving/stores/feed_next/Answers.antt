use Rattle.service_cases.proofs.Staying.{feeds_stay}
use Rattle.service_cases.proofs.serving.stores.feed_next.Goals as goal

pub feed-requires-clause-stands : goal.feed-requires-clause-stands
feed-requires-clause-stands c = (c.requires.stands.0, c.requires.stands.1, c.requires.stands.2)

pub returns : goal.returns
returns c =
    let r = c.requires.stands in
    feeds_stay r.0 r.1 c.args.store.now r.2 c.args.transaction c.feed.new.self c.feed.result (c.feed.ensures r.0 r.1 r.2)
