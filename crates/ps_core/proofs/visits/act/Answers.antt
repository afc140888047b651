use Rattle.std.proofs.Common.{sym, subst}
use Rattle.ps_core.specs.declared.visits.Visit.{Visit}
use Rattle.ps_script.specs.declared.events.ScriptEvent.TheVariants as events
use Rattle.ps_core.specs.Parts.{Acts, HasTable, event_of}
use Rattle.ps_core.proofs.StreamSteps.{known}
use Rattle.ps_core.proofs.Written.{may_write}
use Rattle.ps_core.proofs.Visited.{acted_or}
use Rattle.ps_core.proofs.visits.act.Goals as goal

pub returns-in-Turn : goal.returns-in-Turn
returns-in-Turn c = λ fixed play it.
    subst (λ (v : Visit). Acts fixed play (event_of c.args.name.now v) c.args.name.now c.args.store.now c.turn.new.reader c.turn.result) (sym c.in-Turn.is) (c.turn.ensures fixed play c.args.name.now it)

pub returns-in-Take : goal.returns-in-Take
returns-in-Take c = λ fixed play it.
    subst (λ (v : Visit). Acts fixed play (event_of c.args.name.now v) c.args.name.now c.args.store.now c.take.new.reader c.take.result) (sym c.in-Take.is)
    (c.take.ensures fixed play c.args.name.now c.args.store.now it)

pub returns-in-Cut : goal.returns-in-Cut
returns-in-Cut c = λ fixed play it.
    subst (λ (v : Visit). Acts fixed play (event_of c.args.name.now v) c.args.name.now c.args.store.now c.cut.new.reader c.cut.result) (sym c.in-Cut.is) (c.cut.ensures fixed play c.args.store.now it)

pub returns-in-Alter : goal.returns-in-Alter
returns-in-Alter c = λ fixed play it.
    subst (λ (v : Visit). Acts fixed play (event_of c.args.name.now v) c.args.name.now c.args.store.now c.alter.new.reader c.alter.result) (sym c.in-Alter.is)
    (c.alter.ensures fixed play c.args.name.now c.args.store.now it)

pub returns-in-Number : goal.returns-in-Number
returns-in-Number c = λ fixed play it.
    subst (λ (v : Visit). Acts fixed play (event_of c.args.name.now v) c.args.name.now c.number.new.store c.number.new.reader c.number.result) (sym c.in-Number.is)
    (c.number.ensures fixed play c.args.name.now it)

pub returns-in-Open : goal.returns-in-Open
returns-in-Open c = λ fixed play it.
    subst (λ (v : Visit). Acts fixed play (event_of c.args.name.now v) c.args.name.now c.args.store.now c.open.new.reader c.or_fault.result) (sym c.in-Open.is)
    (rw c.or_fault.ensures (acted_or fixed play (events.Open c.args.name.now) c.args.name.now c.args.store.now c.open.new.reader c.open.result (known play c.args.name.now it.reader it.named) c.open.ensures (λ effect came. came fixed play c.args.store.now it)))

pub returns-in-Local : goal.returns-in-Local
returns-in-Local c = λ fixed play it.
    subst (λ (v : Visit). Acts fixed play (event_of c.args.name.now v) c.args.name.now c.args.store.now c.write_locally.new.reader c.or_fault-in-Local.result) (sym c.in-Local.is)
    (rw c.or_fault-in-Local.ensures (acted_or fixed play (events.Local c.args.name.now c.in-Local.change.now) c.args.name.now c.args.store.now c.write_locally.new.reader c.write_locally.result (may_write play c.args.name.now it.reader c.in-Local.change.now it.named (subst HasTable c.in-Local.is c.requires.table)) c.write_locally.ensures (λ effect came. came fixed play c.args.store.now it)))

pub returns-in-Upload : goal.returns-in-Upload
returns-in-Upload c = λ fixed play it.
    subst (λ (v : Visit). Acts fixed play (event_of c.args.name.now v) c.args.name.now c.upload.new.store c.upload.new.reader c.or_fault-in-Upload.result) (sym c.in-Upload.is)
    (rw c.or_fault-in-Upload.ensures (acted_or fixed play (events.Upload c.args.name.now) c.args.name.now c.upload.new.store c.upload.new.reader c.upload.result (known play c.args.name.now it.reader it.named) c.upload.ensures (λ effect came. came fixed play c.args.name.now it)))

pub returns-in-Rows : goal.returns-in-Rows
returns-in-Rows c = λ fixed play it.
    subst (λ (v : Visit). Acts fixed play (event_of c.args.name.now v) c.args.name.now c.args.store.now c.args.reader.now c.or_fault-in-Rows.result) (sym c.in-Rows.is)
    (rw c.or_fault-in-Rows.ensures (acted_or fixed play (events.Rows c.args.name.now) c.args.name.now c.args.store.now c.args.reader.now c.rows.result (known play c.args.name.now it.reader it.named) c.rows.ensures (λ effect came. came fixed play c.args.name.now c.args.store.now it)))
