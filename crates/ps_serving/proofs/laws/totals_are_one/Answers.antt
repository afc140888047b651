use Rattle.ps_serving.proofs.AllTotals.{all_totals}
use Rattle.ps_serving.proofs.laws.totals_are_one.Goals as goal

pub returns : goal.returns
returns c = all_totals c.ledgers_tell_events.ensures.feeds c.ledgers_tell_histories.ensures c.ledgers_tell_ops.ensures.one
