-- Input that is made from a number: rules of one definition, and transactions of one change each.
use Rattle.std.specs.Prelude.{ℕ, suc, zero, ◌+◌, ◌*◌, ◌%◌, ◌==◌, pos, if◌then◌else◌, List, [], ◌∷◌, ◌++◌, Some, None, codes, decimal}
use Rattle.ps_data.specs.declared.columns.Column.{Column}
use Rattle.ps_data.specs.declared.values.Value.TheVariants as values
use Rattle.ps_rows.specs.declared.changes.Change.{Change}
use Rattle.ps_rows.specs.declared.changes.Transaction.{Transaction}

-- each item lies in the bucket of its owner
abbrev pub made_rules : List ℕ
made_rules = codes "bucket_definitions:\n  mine:\n    parameters: SELECT request.user_id() AS u\n    data:\n      - SELECT * FROM items WHERE owner = bucket.u\n"

abbrev pub row_id : ℕ → List ℕ
row_id n = codes "r" ++ decimal n

-- the columns of the item that the transaction at this position puts
abbrev pub made_columns : ℕ → List Column
made_columns at = record { name = codes "n"; value = values.Int (pos at) } ∷ (record { name = codes "owner"; value = values.Text (codes "u" ++ decimal (at % 7)) }) ∷ []

-- one in five deletes an item, the others put one
abbrev pub made_change : ℕ → Change
made_change at = if at % 5 == 0
    then record { table = codes "items"; id = row_id ((3 * at) % 97); row = None }
    else record { table = codes "items"; id = row_id (at % 97); row = Some (made_columns at) }

abbrev pub made_transaction : ℕ → Transaction
made_transaction at = record { position = record { 0 = at }; changes = made_change at ∷ [] }

-- so many transactions from a position on
abbrev pub made_from : ℕ → ℕ → List Transaction
made_from at zero = []
made_from at (suc more) = made_transaction at ∷ made_from (at + 1) more

-- so many transactions, at the positions from 1 on
abbrev pub made_input : ℕ → List Transaction
made_input n = made_from 1 n
