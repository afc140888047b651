use Rattle.ps_lock.specs.Words.{history_of, value_of}
use Rattle.ps_workers.specs.Sharing.{fixed_of}
use Rattle.ps_workers.proofs.Turning.{begins, looks}
use Rattle.ps_workers.proofs.looks.look_in_turn.Goals as goal

pub returns-clause-turn : goal.returns-clause-turn
returns-clause-turn g c =
    let turn = c.turn-turn.result in (
      history_of turn,
      record {
        looks = looks c.args.seat c.leave.result turn c.turn-turn.ensures.seen c.turn-turn.ensures.own c.leave.ensures.seen c.leave.ensures.own;
        stood = (value_of turn, c.turn-turn.ensures.stands.1);
        found = c.look_at-look.ensures (fixed_of c.args.lock.now) (history_of turn) (begins c.args.lock.now turn c.value.result.now c.value.ensures.value c.turn-turn.ensures.stands);
      },
    )
