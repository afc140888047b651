use Rattle.ps_gen.specs.Made.{made_input}
use Rattle.ps_commands.proofs.Summaries.{generated_is, is_generated}
use Rattle.ps_commands.proofs.generating.print_summary.Goals as goal

pub summarize_store-requires : goal.summarize_store-requires
summarize_store-requires c = (made_input c.args.count, c.in_ok-store.ensures)

pub returns : goal.returns
returns c =
    let n = c.args.count in
    is_generated n (generated_is c.made_rules_are_read.ensures n (c.made_input_is_admitted.ensures n c.requires)) c.summarize_store.result (c.summarize_store.ensures (made_input n) c.in_ok-store.ensures)
