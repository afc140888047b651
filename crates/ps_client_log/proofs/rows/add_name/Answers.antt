use Rattle.std.proofs.Common.{◌≡◌, true, ◌∙◌, rules}
use Rattle.std.specs.BTreeSet.{contains}
use Rattle.std.specs.Cmp.Lexicographic.{slice_cmp}
use Rattle.std.specs.Ordering.{nat_cmp}
use Rattle.ps_client_log.proofs.Copies.{name_added}
use Rattle.ps_client_log.proofs.rows.add_name.Goals as goal

pub returns : goal.returns
returns c = λ other.
    let there : c.args.slot.now.there ≡ true = search rules in
    c.in_ok-insert.ensures.updates.0 other
    ∙ name_added c.args.slot.now.there c.args.name.now c.in_ok-copy.field-0 other (contains (slice_cmp nat_cmp) c.args.names.now other) there c.in_ok-copy.ensures
