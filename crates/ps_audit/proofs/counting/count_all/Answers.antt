use Rattle.std.proofs.Common.{◌≡◌, ◌++◌, [], ◌∷◌, false, refl, sym, ap, ◌∙◌, subst}
use Rattle.ps_rows.specs.declared.changes.Transaction.{Transaction}
use Rattle.ps_audit.specs.Counts.{has_wide_change, operations_behind}
use Rattle.ps_audit.proofs.Counted.{any_next, behind_none, counts_pushed, stands_more, total_more}
use Rattle.ps_audit.proofs.counting.count_all.Goals as goal

pub transactions-init : goal.transactions-init
transactions-init c =
    let none : 0 ≡ operations_behind c.args.rules.now.definitions c.args.transactions.now 0 = sym (behind_none c.args.rules.now.definitions c.args.transactions.now) in
    record {
      narrow = refl;
      counts = c.in_ok-push.ensures.items ∙ ap (λ xs. xs ++ 0 ∷ []) c.new-counts.ensures.items ∙ ap (λ n. n ∷ []) none;
      total = none;
      stands = c.new-standing.ensures;
    }

pub transactions-preserved : goal.transactions-preserved
transactions-preserved c =
    let definitions = c.args.rules.now.definitions in
    let ts = c.args.transactions.now in
    let i = c.transactions.transaction-index in
    let t = c.transaction-item.result in
    let narrow : has_wide_change definitions t.changes ≡ false = subst (λ cs. has_wide_change definitions cs ≡ false) c.as_slice-changes.ensures c.in_ok-count.ensures.wide in
    let sum = total_more definitions ts i t c.transactions-test.true c.transaction-item.is c.as_slice-changes.result.now c.as_slice-changes.ensures
    c.transactions.standing c.transactions.total c.in_ok-count.count c.in_ok-total.total c.transactions.invariant.total c.transactions.invariant.stands c.in_ok-count.ensures.counted c.in_ok-total.ensures in
    record {
      narrow = any_next (λ (u : Transaction). has_wide_change definitions u.changes) ts i t c.transactions-test.true c.transaction-item.is narrow ∙ c.transactions.invariant.narrow;
      counts = counts_pushed definitions ts i c.in_ok-total.total c.transactions.counts.items c.push-in-transactions.new.self.items c.transactions.invariant.counts c.in_ok-push-2.ensures.items sum;
      total = sum;
      stands = stands_more definitions ts i t c.transactions-test.true c.transaction-item.is c.as_slice-changes.result.now c.as_slice-changes.ensures
          c.transactions.standing c.count_changes.new.standing c.transactions.invariant.stands c.in_ok-count.ensures.stands;
    }
