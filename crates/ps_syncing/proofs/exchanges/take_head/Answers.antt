use Rattle.std.proofs.Common.{refl, ap, arith, length, ◌++◌}
use Rattle.ps_answers.specs.Readers.{left_of, part_of}
use Rattle.ps_syncing.specs.Exchanges.{given_of}
use Rattle.ps_syncing.proofs.Beginning.{HasGiven-started, HasGiven-regrouped, HasNoHead-begins}
use Rattle.ps_syncing.proofs.exchanges.take_head.Goals as goal

pub returns-then-head-eq-DONE-clause-begins : goal.returns-then-head-eq-DONE-clause-begins
returns-then-head-eq-DONE-clause-begins g c request =
    let old = g.S.Source.input c.args.from.now in
    let taken = c.in-Ok.ensures.head (given_of old) (HasGiven-started old (left_of c.new-reader.result) c.new-reader.ensures.left) in
    record {
      head = c.in-Ok.head;
      front = part_of c.next_head.new.self;
      given = taken.0;
      is_head = taken.1;
      status_is = c.if-head-eq-DONE.true;
      states = refl;
      few = c.in-Ok.ensures.ahead (omega (arith, ap length c.new-reader.ensures.left));
    }

pub returns-in-Ok-clause-begins : goal.returns-in-Ok-clause-begins
returns-in-Ok-clause-begins g c request =
    let old = g.S.Source.input c.args.from.now in
    let new = g.S.Source.input c.next_head.new.from in
    let taken = c.in-Ok.ensures.head (given_of old) (HasGiven-started old (left_of c.new-reader.result) c.new-reader.ensures.left) in (
      part_of c.next_head.new.self ++ left_of c.next_head.new.self,
      HasGiven-regrouped new (given_of old) (part_of c.next_head.new.self) (left_of c.next_head.new.self) taken.0,
      record {
        states = c.in-Ok.head.length;
        behind = left_of c.next_head.new.self;
        headed = record { head = c.in-Ok.head; front = part_of c.next_head.new.self; bytes = refl; is_head = taken.1; status_is = refl; states = refl };
        other = c.if-head-eq-DONE.false;
        few = c.in-Ok.ensures.ahead (omega (arith, ap length c.new-reader.ensures.left));
      },
    )

pub returns-in-Err-NoAnswer-clause-begins : goal.returns-in-Err-NoAnswer-clause-begins
returns-in-Err-NoAnswer-clause-begins g c request =
    let old = g.S.Source.input c.args.from.now in
    let new = g.S.Source.input c.next_head.new.from in
    let says = rw c.in-Err-NoAnswer.field-0-is at c.in-Err-NoAnswer.ensures.head in
    let taken = says (given_of old) (HasGiven-started old (left_of c.new-reader.result) c.new-reader.ensures.left) in
    let few = c.in-Err-NoAnswer.ensures.ahead (omega (arith, ap length c.new-reader.ensures.left)) in
    (left_of c.next_head.new.self, taken.0, HasNoHead-begins new request (left_of c.next_head.new.self) few taken.1)
