use Rattle.std.proofs.Common.{sym, ◌∙◌}
use Rattle.ps_store.proofs.LogsOf.{marked_log, unmarked_log, only_log}
use Rattle.ps_store.proofs.stores.Store.logs_of.Goals as goal

pub returns-then-has_mark : goal.returns-then-has_mark
returns-then-has_mark c = λ fixed history h.
    marked_log fixed c.args.self.now history h c.args.bucket.now c.in-Some.building c.in-Some.is (sym c.has_mark.ensures ∙ c.if-has_mark.true)

pub returns-else-has_mark : goal.returns-else-has_mark
returns-else-has_mark c = λ fixed history h.
    unmarked_log fixed c.args.self.now history h c.args.bucket.now c.in-Some.building c.in-Some.is (sym c.has_mark.ensures ∙ c.if-has_mark.false)

pub returns-in-None : goal.returns-in-None
returns-in-None c = λ fixed history h. only_log fixed c.args.self.now history h c.args.bucket.now c.in-None.is
