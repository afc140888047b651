use Rattle.ps_journal.specs.declared.places.Place.{Place}
use Rattle.std.proofs.Common.{inl, ℕ, List, [], ◌∷◌, ◌++◌, refl, ◌∙◌, ap, arith}
use Rattle.ps_journal.specs.Layout.{framed}
use Rattle.ps_journal.proofs.Results.{on_err}
use Rattle.ps_journal.proofs.Reading.{are_push}
use Rattle.ps_journal.proofs.Appending.{among_later, length-block, passes_nothing, passes_settle, passes_stage, passes_open}
use Rattle.ps_journal.proofs.journals.Journal.append.Goals as goal

pub returns-in_err-body-clause-err : goal.returns-in_err-body-clause-err
returns-in_err-body-clause-err g c = on_err c.from_residual.result (λ records others keeps. (others, keeps, among_later c.args.entry.now others others (λ x among. among)))

pub returns-in_err-body-clause-crash : goal.returns-in_err-body-clause-crash
returns-in_err-body-clause-crash g c = λ records others keeps.
    passes_nothing records others c.args.entry.now keeps.0 keeps.1 keeps.3 keeps.4 (g.D.Disk.told c.args.self.now.0) c.args.self.now.1 keeps.2

pub returns-then-bytes-gt-LIMIT-clause-err : goal.returns-then-bytes-gt-LIMIT-clause-err
returns-then-bytes-gt-LIMIT-clause-err g c = λ records others keeps. (others, keeps, among_later c.args.entry.now others others (λ x among. among))

pub returns-then-bytes-gt-LIMIT-clause-crash : goal.returns-then-bytes-gt-LIMIT-clause-crash
returns-then-bytes-gt-LIMIT-clause-crash g c = λ records others keeps.
    passes_nothing records others c.args.entry.now keeps.0 keeps.1 keeps.3 keeps.4 (g.D.Disk.told c.args.self.now.0) c.args.self.now.1 keeps.2

pub returns-in_err-block-clause-err : goal.returns-in_err-block-clause-err
returns-in_err-block-clause-err g c = on_err c.from_residual-in_err-block.result (λ records others keeps. (others, keeps, among_later c.args.entry.now others others (λ x among. among)))

pub returns-in_err-block-clause-crash : goal.returns-in_err-block-clause-crash
returns-in_err-block-clause-crash g c = λ records others keeps.
    passes_nothing records others c.args.entry.now keeps.0 keeps.1 keeps.3 keeps.4 (g.D.Disk.told c.args.self.now.0) c.args.self.now.1 keeps.2

pub returns-in_err-settle-clause-err : goal.returns-in_err-settle-clause-err
returns-in_err-settle-clause-err g c =
    on_err c.from_residual-in_err-settle.result (λ records others keeps. (
      others,
      (keeps.0, keeps.1, c.in_err-settle.ensures.err keeps.0 keeps.1 keeps.2, keeps.3, keeps.4),
      among_later c.args.entry.now others others (λ x among. among),
    ))

pub returns-in_err-settle-clause-crash : goal.returns-in_err-settle-clause-crash
returns-in_err-settle-clause-crash g c = λ records others keeps.
    passes_settle records others c.args.entry.now keeps.0 keeps.1 keeps.3 keeps.4 (g.D.Disk.told c.args.self.now.0) (g.D.Disk.told c.settle.new.self.0)
    (c.settle.ensures.crash keeps.0 keeps.1 keeps.2)

pub stage-requires-clause-small : goal.stage-requires-clause-small
stage-requires-clause-small g c =
    let end = rw (← c.self.view_is) at c.settle.ensures.end in
    let framed_is = c.deref-2.ensures.value ∙ c.in_ok-block.ensures ∙ ap (λ (l : List ℕ). framed l ++ 0 ∷ []) c.deref.ensures.value in
    omega (arith, end, length-block c.in_ok-body.body.items c.deref-2.result.now framed_is)

pub returns-in_err-stage-clause-err : goal.returns-in_err-stage-clause-err
returns-in_err-stage-clause-err g c =
    on_err c.from_residual-in_err-stage.result (λ records others keeps.
    let shut = c.in_ok-settle.ensures.ok keeps.0 keeps.1 keeps.2 in
    ([], (keeps.0, [], c.in_err-stage.ensures.err keeps.0 shut, keeps.3, tt), tt))

pub returns-in_err-stage-clause-crash : goal.returns-in_err-stage-clause-crash
returns-in_err-stage-clause-crash g c = λ records others keeps.
    let shut = c.in_ok-settle.ensures.ok keeps.0 keeps.1 keeps.2 in
    passes_stage records others c.args.entry.now keeps.0 keeps.1 keeps.3 keeps.4 (g.D.Disk.told c.args.self.now.0) (g.D.Disk.told c.settle.new.self.0) (g.D.Disk.told c.stage.new.self.0)
    (c.settle.ensures.crash keeps.0 keeps.1 keeps.2) (c.stage.ensures.crash keeps.0 shut)

pub open_gate-requires-clause-room : goal.open_gate-requires-clause-room
open_gate-requires-clause-room g c = λ known is.
    let end = rw (← c.self.view_is) at c.settle.ensures.end in
    let framed_is = c.deref-2.ensures.value ∙ c.in_ok-block.ensures ∙ ap (λ (l : List ℕ). framed l ++ 0 ∷ []) c.deref.ensures.value in
    omega (arith, end, c.in_ok-stage.ensures.room known is, length-block c.in_ok-body.body.items c.deref-2.result.now framed_is)

pub returns-in_err-open_gate-clause-err : goal.returns-in_err-open_gate-clause-err
returns-in_err-open_gate-clause-err g c =
    on_err c.from_residual-in_err-open_gate.result (λ records others keeps.
    let framed_is = c.deref-2.ensures.value ∙ c.in_ok-block.ensures ∙ ap (λ (l : List ℕ). framed l ++ 0 ∷ []) c.deref.ensures.value in
    let body = c.in_ok-body.body.items in
    let shut = c.in_ok-settle.ensures.ok keeps.0 keeps.1 keeps.2 in
    let ajar = c.in_ok-stage.ensures.ok keeps.0 body framed_is shut in
    (c.args.entry.now ∷ [], (keeps.0, body ∷ [], c.in_err-open_gate.ensures.err keeps.0 (body ∷ []) ajar, keeps.3, (c.in_ok-body.ensures.read_again, tt)), (inl refl, tt)))

pub returns-in_err-open_gate-clause-crash : goal.returns-in_err-open_gate-clause-crash
returns-in_err-open_gate-clause-crash g c = λ records others keeps.
    let framed_is = c.deref-2.ensures.value ∙ c.in_ok-block.ensures ∙ ap (λ (l : List ℕ). framed l ++ 0 ∷ []) c.deref.ensures.value in
    let body = c.in_ok-body.body.items in
    let shut = c.in_ok-settle.ensures.ok keeps.0 keeps.1 keeps.2 in
    let ajar = c.in_ok-stage.ensures.ok keeps.0 body framed_is shut in
    passes_open records others c.args.entry.now keeps.0 keeps.1 keeps.3 keeps.4 body c.in_ok-body.ensures.read_again (g.D.Disk.told c.args.self.now.0) (g.D.Disk.told c.settle.new.self.0)
    (g.D.Disk.told c.stage.new.self.0) (g.D.Disk.told c.open_gate.new.self.0)
    (c.settle.ensures.crash keeps.0 keeps.1 keeps.2) (c.stage.ensures.crash keeps.0 shut) (c.open_gate.ensures.crash keeps.0 (body ∷ []) ajar)

pub returns-clause-ok : goal.returns-clause-ok
returns-clause-ok g c = λ records others keeps.
    let start = rw (← c.self.view_is) at c.settle.ensures.end in
    let staged = c.stage.ensures.end in
    let framed_is = c.deref-2.ensures.value ∙ c.in_ok-block.ensures ∙ ap (λ (l : List ℕ). framed l ++ 0 ∷ []) c.deref.ensures.value in
    let body = c.in_ok-body.body.items in
    let shut = c.in_ok-settle.ensures.ok keeps.0 keeps.1 keeps.2 in
    let ajar = c.in_ok-stage.ensures.ok keeps.0 body framed_is shut in (
      keeps.0 ++ body ∷ [],
      [],
      c.in_ok-open_gate.ensures.ok keeps.0 body (omega (arith, start, staged, c.len-count.ensures, c.in_ok-body.body.ok.0)) ajar,
      are_push keeps.0 records body c.args.entry.now keeps.3 c.in_ok-body.ensures.read_again,
      tt,
    )

pub returns-clause-written : goal.returns-clause-written
returns-clause-written g c = λ bodies others stands.
    let start = rw (← c.self.view_is) at c.settle.ensures.end in
    let staged = c.stage.ensures.end in
    let framed_is = c.deref-2.ensures.value ∙ c.in_ok-block.ensures ∙ ap (λ (l : List ℕ). framed l ++ 0 ∷ []) c.deref.ensures.value in
    let body = c.in_ok-body.body.items in
    let shut = c.in_ok-settle.ensures.ok bodies others stands in
    let ajar = c.in_ok-stage.ensures.ok bodies body framed_is shut in
    let opened = c.in_ok-open_gate.ensures.ok bodies body (omega (arith, start, staged, c.len-count.ensures, c.in_ok-body.body.ok.0)) ajar in
    rw c.in_ok-body.ensures.value at opened

pub returns-clause-fresh : goal.returns-clause-fresh
returns-clause-fresh g c = (c.stage.new.self.1.end, ap (λ (p : Place). p.standing) c.in_ok-open_gate.ensures.place)

pub returns-clause-crash : goal.returns-clause-crash
returns-clause-crash g c = λ records others keeps.
    let framed_is = c.deref-2.ensures.value ∙ c.in_ok-block.ensures ∙ ap (λ (l : List ℕ). framed l ++ 0 ∷ []) c.deref.ensures.value in
    let body = c.in_ok-body.body.items in
    let shut = c.in_ok-settle.ensures.ok keeps.0 keeps.1 keeps.2 in
    let ajar = c.in_ok-stage.ensures.ok keeps.0 body framed_is shut in
    passes_open records others c.args.entry.now keeps.0 keeps.1 keeps.3 keeps.4 body c.in_ok-body.ensures.read_again (g.D.Disk.told c.args.self.now.0) (g.D.Disk.told c.settle.new.self.0)
    (g.D.Disk.told c.stage.new.self.0) (g.D.Disk.told c.open_gate.new.self.0)
    (c.settle.ensures.crash keeps.0 keeps.1 keeps.2) (c.stage.ensures.crash keeps.0 shut) (c.open_gate.ensures.crash keeps.0 (body ∷ []) ajar)
