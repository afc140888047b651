use Rattle.std.proofs.Common.{refl, ap, ◌∙◌}
use Rattle.ps_snapshot.specs.FirstCopies.{is_listed}
use Rattle.ps_snapshot.proofs.progress.Progress.begin.Goals as goal

pub returns : goal.returns
returns c = λ copy h. record {
  begun = refl;
  start = refl;
  tables = refl;
  listed = λ table. c.in_ok-self.ensures table ∙ ap (λ tables. is_listed tables table) c.as_slice.ensures;
  last = refl;
  reached = h.reached;
  changed = h.changed;
  ended = h.ended;
}
