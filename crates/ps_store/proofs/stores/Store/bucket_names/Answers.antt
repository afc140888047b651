use Rattle.ps_store.proofs.Reading.{names_are}
use Rattle.ps_store.proofs.stores.Store.bucket_names.Goals as goal

pub returns : goal.returns
returns c = λ fixed history h. names_are fixed c.args.self.now history h c.in_ok-names.names c.in_ok-names.ensures.in_order c.in_ok-names.ensures.names
