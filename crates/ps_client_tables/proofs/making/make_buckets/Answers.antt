use Rattle.sqlite.specs.Held.{state}
use Rattle.ps_client_tables.proofs.Creating.{makes_buckets}
use Rattle.ps_client_tables.proofs.making.make_buckets.Goals as goal

pub returns-clause-made : goal.returns-clause-made
returns-clause-made g c clean made = makes_buckets (state g.S.Store c.args.tx.now.conn.now) (state g.S.Store c.run.new.tx.conn.now) c.run.result made (c.run.ensures.runs clean made.inside)
