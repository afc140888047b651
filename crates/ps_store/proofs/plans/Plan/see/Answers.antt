use Rattle.std.proofs.Common.{ℕ, Some, subst, length}
use Rattle.std.specs.Ordering.{eq_by_cmp}
use Rattle.ps_rows.specs.Source.{key_cmp}
use Rattle.ps_store.specs.Originals.{columns_of}
use Rattle.ps_store.specs.Plans.{row_or_left}
use Rattle.ps_store.specs.Rows.{row_at}
use Rattle.ps_store.proofs.Maps.{Puts, tied_rows, equal_rows, read_after}
use Rattle.ps_store.proofs.plans.Plan.see.Goals as goal

pub returns-clause-seen : goal.returns-clause-seen
returns-clause-seen c =
    let put : Puts key_cmp c.args.self.now.seen c.insert.new.self c.args.key (length c.args.self.now.made.items) =
    subst (λ (n : ℕ). Puts key_cmp c.args.self.now.seen c.insert.new.self c.args.key n) c.args.self.now.made.ok.0
    (subst (λ (n : ℕ). Puts key_cmp c.args.self.now.seen c.insert.new.self c.args.key n) c.len-place.ensures c.in_ok-insert.ensures.updates.0) in
    λ rows changes other. read_after key_cmp (eq_by_cmp key_cmp) tied_rows equal_rows (row_or_left changes (columns_of (row_at rows other))) c.args.self.now.seen c.insert.new.self c.args.key (Some (length c.args.self.now.made.items)) put other
