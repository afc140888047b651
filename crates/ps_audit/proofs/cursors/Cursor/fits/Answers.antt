use Rattle.std.proofs.Common.{◌≡◌, ◌+◌, true, length, sym, ap, ◌∙◌, arith}
use Rattle.ps_audit.specs.Places.{case_of}
use Rattle.ps_audit.specs.Positions.{due_over}
use Rattle.ps_audit.proofs.Placing.{counts_length, count_at, due_behind}
use Rattle.ps_audit.proofs.cursors.Cursor.fits.Goals as goal

pub index-requires : goal.index-requires
index-requires c =
    let s = c.args.subject.now in
    let many : length s.counts.items ≡ length s.transactions.now + 1 = counts_length s.rules.now.definitions s.transactions.now s.counts.items c.requires.counted.counts in
    omega (arith, many, c.requires.stands.within)

pub returns-then-index-op-clause-no : goal.returns-then-index-op-clause-no
returns-then-index-op-clause-no c =
    let s = c.args.subject.now in
    λ e fits. c.if-index-op.true (c.index.ensures ∙ count_at s.rules.now.definitions s.transactions.now s.counts.items c.args.self.now.place c.index.result.now c.requires.counted.counts c.requires.stands.within ∙ fits.operations)

pub returns-clause-yes : goal.returns-clause-yes
returns-clause-yes c =
    let s = c.args.subject.now in
    λ e. record {
      operations = sym (c.index.ensures ∙ count_at s.rules.now.definitions s.transactions.now s.counts.items c.args.self.now.place c.index.result.now c.requires.counted.counts c.requires.stands.within) ∙ c.if-index-op.false;
      due = due_behind (case_of s) c.args.self.now.place c.requires.counted.rises ∙ ap (due_over (case_of s)) (sym c.requires.stands.source) ∙ sym c.in_ok-due.ensures ∙ sym c.as_slice.ensures ∙ c.are_same.ensures.0 e;
    }

pub returns-clause-no : goal.returns-clause-no
returns-clause-no c =
    let s = c.args.subject.now in
    λ e fits.
    let same : c.are_same.result ≡ true = c.are_same.ensures.1 (c.as_slice.ensures ∙ c.in_ok-due.ensures ∙ ap (due_over (case_of s)) c.requires.stands.source
    ∙ sym (due_behind (case_of s) c.args.self.now.place c.requires.counted.rises) ∙ fits.due) in absurd (cc)
