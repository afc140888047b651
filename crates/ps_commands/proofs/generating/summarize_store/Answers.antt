use Rattle.std.proofs.Common.{◌++◌, ◌∙◌}
use Rattle.ps_commands.specs.Generating.{made_summary, rest_text, totals_text}
use Rattle.ps_files.specs.MadeRules.{made_rule_set}
use Rattle.ps_files.specs.ReadingChanges.{usual}
use Rattle.ps_commands.proofs.Summaries.{summed, same_text}
use Rattle.ps_commands.proofs.generating.summarize_store.Goals as goal

pub compact_all-requires : goal.compact_all-requires
compact_all-requires c = let h = c.requires.1 in (usual made_rule_set, h.history, h.stands)

pub returns : goal.returns
returns c = λ ts h.
    same_text c.print_line.result (totals_text c.totals-totals.result ++ rest_text c.in_ok-rows.rows c.add_up-before.result.0 c.add_up-before.result.1) (made_summary ts)
    (summed ts c.args.store.now h c.totals-totals.result c.as_slice.result.now c.in_ok-rows.rows c.add_up-before.result.0 c.add_up-before.result.1
    (c.totals-totals.ensures (usual made_rule_set) h.history h.stands) (c.in_ok-rows.ensures ts h) (c.as_slice.ensures ∙ c.in_ok-reports.ensures (usual made_rule_set) h.history h.stands) c.add_up-before.ensures.before c.add_up-before.ensures.after)
    c.print_line.ensures
