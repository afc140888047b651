use Rattle.std.proofs.lemmas.Result.{err_from_is_err_and}
use Rattle.ps_files.proofs.Reaching.{head_is, not_read, later, taken_so}
use Rattle.ps_files.specs.ReadingChanges.{usual}
use Rattle.ps_files.proofs.change_files.write_line.Goals as goal

pub returns-in_err-transaction : goal.returns-in_err-transaction
returns-in_err-transaction c =
    let p = err_from_is_err_and c.from_residual.result c.from_residual.ensures.1 in
    rw (p.1, p.2) (λ rules done h.
    (not_read rules done c.args.number c.args.line.now c.head-last.result.0 c.in_err-transaction.field-0.0 c.args.store.now
    (head_is rules done c.args.store.now h c.head-last.result.0 (c.head-last.ensures (usual rules) h.history h.stands)) c.in_err-transaction.ensures.read))

pub write_transaction-requires-clause-committed : goal.write_transaction-requires-clause-committed
write_transaction-requires-clause-committed c =
    let k = c.requires in
    let last = head_is k.0 k.1 c.args.store.now k.2 c.head-last.result.0 (c.head-last.ensures (usual k.0) k.2.history k.2.stands) in
    (k.0, k.1, k.2, later k.0 k.1 c.args.number c.args.line.now c.head-last.result.0 c.in_ok-transaction.transaction last c.in_ok-transaction.ensures.read)

pub returns : goal.returns
returns c = λ rules done h.
    let t = c.in_ok-transaction.transaction in
    let last = head_is rules done c.args.store.now h c.head-last.result.0 (c.head-last.ensures (usual rules) h.history h.stands) in
    taken_so rules done c.args.number c.args.line.now c.head-last.result.0 t last c.in_ok-transaction.ensures.read c.write_transaction.new.store c.write_transaction.result
    (c.write_transaction.ensures rules done h (later rules done c.args.number c.args.line.now c.head-last.result.0 t last c.in_ok-transaction.ensures.read))
