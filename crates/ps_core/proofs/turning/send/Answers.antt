use Rattle.std.proofs.Common.{◌++◌, [], None, sym, subst}
use Rattle.ps_streams.specs.declared.outcomes.TurnOutcome.{TurnOutcome}
use Rattle.ps_streams.specs.Runs.{made_by}
use Rattle.ps_streams.specs.Turning.{line_in}
use Rattle.ps_core.specs.Worlds.{AreWaiting}
use Rattle.ps_core.proofs.Sent.{waits_in}
use Rattle.ps_core.proofs.turning.send.Goals as goal

pub returns-in_ok-push_back-in-Line-clause-waiting : goal.returns-in_ok-push_back-in-Line-clause-waiting
returns-in_ok-push_back-in-Line-clause-waiting c = λ at made are.
    subst (λ (o : TurnOutcome). AreWaiting c.push_back.new.self.items (made ++ made_by at (line_in o) None [])) (sym c.in-Line.is)
    (waits_in c.args.waiting.now.items c.push_back.new.self.items _ made at c.in-Line.line c.in_ok-push_back-in-Line.ensures.items are (record { reads = c.in_ok-bytes-in-Line.ensures.read_again; kind = c.is_data-has_data.ensures }))
