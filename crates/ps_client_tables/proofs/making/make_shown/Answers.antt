use Rattle.sqlite.specs.Held.{state}
use Rattle.ps_client_tables.proofs.Creating.{makes_shown, makes_all}
use Rattle.ps_client_tables.proofs.making.make_shown.Goals as goal

pub returns-clause-made : goal.returns-clause-made
returns-clause-made g c clean made = makes_shown (state g.S.Store c.args.tx.now.conn.now) (state g.S.Store c.run.new.tx.conn.now) c.run.result made (c.run.ensures.runs clean made.inside)

pub returns-clause-rows : goal.returns-clause-rows
returns-clause-rows g c clean made = makes_all (state g.S.Store c.args.tx.now.conn.now) (state g.S.Store c.run.new.tx.conn.now) c.run.result made (c.run.ensures.runs clean made.inside)
