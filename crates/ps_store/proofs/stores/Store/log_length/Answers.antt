use Rattle.std.proofs.Common.{◌∙◌}
use Rattle.ps_store.specs.StoreLogs.{log_at}
use Rattle.ps_store.proofs.Reading.{log_length}
use Rattle.ps_store.proofs.stores.Store.log_length.Goals as goal

pub returns : goal.returns
returns c = λ fixed history h. c.count_upto.ensures ∙ log_length fixed c.args.self.now history h c.args.bucket.now (log_at c.logs_of.result.now c.args.bucket.now) (c.logs_of.ensures fixed history h)
