use Rattle.std.proofs.Common.{◌≡◌, take, drop, fold}
use Rattle.ps_store.specs.Ledgers.{Ledger, write_next}
use Rattle.ps_store.specs.Plans.{PlanStands, IsStart}
use Rattle.ps_store.specs.Runs.{run_from}
use Rattle.ps_store.proofs.plans.plan_run.Given as goal

-- the run goes on behind the changes so far
abbrev pub invariant-changes : goal.invariant-changes
invariant-changes l = (base : Ledger) → IsStart l.fixed.rules l.rows l.fn.last.0 base → record {
  plan : PlanStands l.fixed.rules l.rows l.changes.items l.plan base (take l.place (take l.limit l.changes.items));
  run : run_from l.fixed.limits (fold write_next base (take l.place (take l.limit l.changes.items))) l.place (drop l.place (take l.limit l.changes.items))
      ≡ run_from l.fixed.limits base 0 (take l.limit l.changes.items);
}
