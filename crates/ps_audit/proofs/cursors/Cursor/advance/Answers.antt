use Rattle.std.proofs.Common.{◌≡◌, List, get_or, sym, ap, ◌∙◌, arith}
use Rattle.ps_rows.specs.declared.changes.Transaction.{Transaction}
use Rattle.ps_rows.specs.Source.{after_changes}
use Rattle.ps_audit.specs.Places.{case_of}
use Rattle.ps_audit.proofs.Placing.{position_next, source_next}
use Rattle.ps_audit.proofs.cursors.Cursor.advance.Goals as goal

pub returns-clause-stands : goal.returns-clause-stands
returns-clause-stands c =
    let case = case_of c.args.subject.now in
    let n = c.args.self.now.place in
    let ts : List Transaction = c.args.subject.now.transactions.now in
    let t : Transaction = get_or ts n c.index-subject-self.result in
    let is : t ≡ get_or ts n t = ap (λ (d : Transaction). get_or ts n d) c.index-subject-self.is in
    record {
      within = omega (arith, c.requires.next);
      position = sym (position_next case n t c.requires.next is);
      source = c.in_ok-take.ensures ∙ ap (after_changes t.position.0 0 t.changes) c.requires.stands.source ∙ sym (source_next case n t c.requires.next is);
    }
