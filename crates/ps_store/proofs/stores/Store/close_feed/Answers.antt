use Rattle.ps_store.proofs.Calls.{close_done}
use Rattle.ps_store.proofs.stores.Store.close_feed.Goals as goal

pub returns : goal.returns
returns c = λ fixed history h. close_done fixed c.args.self.now history h
