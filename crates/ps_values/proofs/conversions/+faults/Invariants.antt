use Rattle.std.proofs.Common.{◌≡◌, drop}
use Rattle.serde_json.specs.View.{items_view, members_view}
use Rattle.ps_values.specs.ValueFaults.{first_fault, numbers_of_items, numbers_of_members}
use Rattle.ps_values.proofs.conversions.+faults.Given as goal

-- what was passed has no fault: the first one of all is the first one of what is left
abbrev pub invariant-first_fault_of_items-items : goal.invariant-first_fault_of_items-items
invariant-first_fault_of_items-items l =
    first_fault (numbers_of_items (items_view l.items.items)) ≡ first_fault (numbers_of_items (items_view (drop l.item-index l.item-items)))

abbrev pub invariant-first_fault_of_members-members : goal.invariant-first_fault_of_members-members
invariant-first_fault_of_members-members l =
    (goal.iterator-first_fault_of_members-members).can_next l.member-iterator ×
    (goal.iterator-first_fault_of_members-members).is_finite l.member-iterator ×
    (first_fault (numbers_of_members (members_view l.members.entries)) ≡ first_fault (numbers_of_members (members_view l.member-iterator)))
