use Rattle.std.proofs.Common.{◌≡◌, subst}
use Rattle.std.specs.Prelude.{if◌then◌else◌}
use Rattle.std.specs.Ordering.{eq_by_cmp}
use Rattle.ps_rows.specs.Source.{Key, key_cmp}
use Rattle.ps_audit.specs.Counts.{entries_in}
use Rattle.ps_audit.proofs.Counted.{stands_change}
use Rattle.ps_audit.proofs.counting.count_change.Goals as goal

pub returns-clause-stands : goal.returns-clause-stands
returns-clause-stands c =
    let P : Key → Type 0 = λ key. (other : Key) → entries_in c.set.new.self other ≡ (if eq_by_cmp key_cmp other key then c.in_ok-entries.entries else entries_in c.args.standing.now other) in
    let key : Key = (c.in_ok-copy.field-0, c.in_ok-copy-2.field-0) in
    let own : Key = (c.args.change.now.table, c.args.change.now.id) in
    let same : key ≡ own = λ i. (c.in_ok-copy.ensures i, c.in_ok-copy-2.ensures i) in
    λ source position index stands. stands_change c.args.rules.now.definitions c.args.standing.now c.set.new.self source position index c.args.change.now c.in_ok-entries.entries
    (subst P same c.in_ok-set.ensures) c.in_ok-entries.ensures.entries stands
