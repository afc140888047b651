use Rattle.std.proofs.Common.{◌≡◌, sym, rules, arith, Some, None}
use Rattle.serde_json.specs.View.{view}
use Rattle.ps_values.specs.ValueFaults.{first_fault as first_fault_of, numbers_of}
use Rattle.ps_values.proofs.Faults.{item_more}
use Rattle.ps_values.proofs.conversions.+faults.Goals as goal

pub first_fault_of_items-returns-in-Some : goal.first_fault_of_items-returns-in-Some
first_fault_of_items-returns-in-Some t c =
    let item = c.item-item.result in
    let fault : first_fault_of (numbers_of (view item)) ≡ Some c.in-Some.fault = search rules in
    sym (item_more _ c.deref-item-items.result.now c.items.item-index item _ c.items.invariant (omega arith) c.item-item.is fault)

pub first_fault_of_items-items-preserved : goal.first_fault_of_items-items-preserved
first_fault_of_items-items-preserved t c =
    let item = c.item-item.result in
    let fault : first_fault_of (numbers_of (view item)) ≡ None = search rules in
    item_more _ c.deref-item-items.result.now c.items.item-index item _ c.items.invariant (omega arith) c.item-item.is fault
