use Rattle.std.proofs.Common.{rules, ◌≡◌, [], List, sym, ◌∙◌, subst}
use Rattle.std.proofs.lemmas.List.{nil_from_length}
use Rattle.std.proofs.lemmas.Result.{err_from_is_err_and}
use Rattle.ps_rows.specs.declared.changes.Transaction.{Transaction}
use Rattle.ps_store.specs.Stores.{StoreStandsFor}
use Rattle.ps_files.proofs.Writing.{IsWriting, writing_starts, writing_more, writing_stops, writing_ends, next_past, next_low}
use Rattle.ps_files.proofs.change_files.write_transactions.Goals as goal

pub made-init : goal.made-init
made-init c =
    let start : c.into_iter-transaction-iterator.result.rest.items ≡ c.args.made = search rules in
    writing_starts c.args.rules c.args.made c.into_iter-transaction-iterator.result.rest.items c.in_ok-store.store
    start c.requires
    (subst (λ limits. StoreStandsFor (record { rules = c.args.rules; limits = limits }) c.in_ok-store.store []) c.usual.ensures.value c.in_ok-store.ensures)

pub write_transaction-requires-clause-position : goal.write_transaction-requires-clause-position
write_transaction-requires-clause-position c = next_low c.args.rules c.args.made c.made.transaction-iterator.rest.items c.in-Some.transaction c.next.new.self.rest.items c.made.store c.made.invariant c.in-Some.ensures.steps.0

pub write_transaction-requires-clause-committed : goal.write_transaction-requires-clause-committed
write_transaction-requires-clause-committed c = (
  c.args.rules,
  c.made.invariant.done,
  c.made.invariant.committed,
  next_past c.args.rules c.args.made c.made.transaction-iterator.rest.items c.in-Some.transaction c.next.new.self.rest.items c.made.store c.made.invariant c.in-Some.ensures.steps.0,
)

pub made-preserved : goal.made-preserved
made-preserved c =
    let w = c.made.invariant in
    let left = c.made.transaction-iterator.rest.items in
    let rest = c.next.new.self.rest.items in
    writing_more c.args.rules c.args.made left c.in-Some.transaction rest c.made.store w c.in-Some.ensures.steps.0 c.write_transaction.new.store
    (c.in_ok-write_transaction.ensures c.args.rules w.done w.committed (next_past c.args.rules c.args.made left c.in-Some.transaction rest c.made.store w c.in-Some.ensures.steps.0))

pub returns-in_err-write_transaction : goal.returns-in_err-write_transaction
returns-in_err-write_transaction c =
    let p = err_from_is_err_and c.from_residual-in_err-write_transaction.result c.from_residual-in_err-write_transaction.ensures.1 in
    rw (p.1, p.2) (let w = c.made.invariant in
    let left = c.made.transaction-iterator.rest.items in
    let rest = c.next.new.self.rest.items in
    writing_stops c.args.rules c.args.made left c.in-Some.transaction rest c.made.store w c.in-Some.ensures.steps.0 c.write_transaction.new.store c.in_err-write_transaction.field-0.0
    (c.in_err-write_transaction.ensures c.args.rules w.done w.committed (next_past c.args.rules c.args.made left c.in-Some.transaction rest c.made.store w c.in-Some.ensures.steps.0)))

pub returns : goal.returns
returns c =
    let left : List Transaction = c.made.transaction-iterator.rest.items in
    let none : left ≡ [] = nil_from_length left (sym c.made.transaction-iterator.rest.ok.0 ∙ c.in-None.ensures.steps.0) in
    writing_ends c.args.rules c.args.made c.made.store (subst (λ (ts : List Transaction). IsWriting c.args.rules c.args.made ts c.made.store) none c.made.invariant)
