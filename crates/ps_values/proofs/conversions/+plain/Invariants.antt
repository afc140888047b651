use Rattle.std.proofs.Common.{◌≡◌, List, ◌++◌, take, map}
use Rattle.serde_json.specs.View.{view, members_view}
use Rattle.serde_json.proofs.Views.{Entry}
use Rattle.ps_data.specs.Conversions.{plain_of, plain_members}
use Rattle.ps_values.proofs.conversions.+plain.Given as goal

abbrev pub invariant-plain_items-items : goal.invariant-plain_items-items
invariant-plain_items-items l = map view l.made.items ≡ map (λ json. plain_of (view json)) (take l.item-index l.item-items)

abbrev pub invariant-plain_members-members : goal.invariant-plain_members-members
invariant-plain_members-members l =
    (goal.iterator-plain_members-members).can_next l.name-iterator ×
    (goal.iterator-plain_members-members).is_finite l.name-iterator ×
    (done : List Entry) × (l.members.entries ≡ done ++ l.name-iterator) × (members_view l.made.entries ≡ plain_members (members_view done))
