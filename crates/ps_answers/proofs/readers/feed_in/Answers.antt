-- The search begins behind the bytes that have no feed.
use Rattle.ps_answers.proofs.Feeds.{feeds_on, feeds_nowhere}
use Rattle.ps_answers.proofs.readers.feed_in.Goals as goal

pub returns-in-Some : goal.returns-in-Some
returns-in-Some c = feeds_on c.args.bytes.now c.args.looked c.in-Some.place c.requires.within c.requires.none c.in-Some.ensures

pub returns-in-None : goal.returns-in-None
returns-in-None c = feeds_nowhere c.args.bytes.now c.args.looked c.requires.within c.requires.none c.in-None.ensures
