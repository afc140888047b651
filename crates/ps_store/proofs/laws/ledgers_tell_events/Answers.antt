use Rattle.ps_store.proofs.Recording.{tells_feeds, checkpoint_begins, checkpoint_reached, switch_reached}
use Rattle.ps_store.proofs.laws.ledgers_tell_events.Goals as goal

pub returns : goal.returns
returns c = record { feeds = tells_feeds; begin = checkpoint_begins; reached = checkpoint_reached; switched = switch_reached }
