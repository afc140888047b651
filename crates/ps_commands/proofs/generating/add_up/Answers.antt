use Rattle.std.proofs.Common.{◌+◌, arith, sym, ap, ◌∙◌, take}
use Rattle.std.proofs.lemmas.List.Sums.{sum_by_more}
use Rattle.ps_files.specs.declared.compacting.Compacted.{Compacted}
use Rattle.ps_commands.specs.Generating.{all_after, all_before}
use Rattle.ps_commands.proofs.generating.add_up.Goals as goal

pub reports-preserved : goal.reports-preserved
reports-preserved c =
    let one = c.compacted-item.result in
    record {
      before =
          c.plus-before.ensures.value
          ∙ ap (λ n. n + one.report.before) c.reports.invariant.before
          ∙ ap (λ (x : Compacted). all_before (take c.reports.compacted-index c.args.reports.now) + x.report.before) c.compacted-item.is
          ∙ sym (sum_by_more (λ (x : Compacted). x.report.before) c.args.reports.now c.reports.compacted-index one c.reports-test.true);
      after =
          c.plus-after.ensures.value
          ∙ ap (λ n. n + one.report.after) c.reports.invariant.after
          ∙ ap (λ (x : Compacted). all_after (take c.reports.compacted-index c.args.reports.now) + x.report.after) c.compacted-item.is
          ∙ sym (sum_by_more (λ (x : Compacted). x.report.after) c.args.reports.now c.reports.compacted-index one c.reports-test.true);
      before_within = omega arith;
      after_within = omega arith;
    }
