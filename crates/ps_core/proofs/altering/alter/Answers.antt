use Rattle.std.proofs.Common.{List, refl, sym, subst, ◌∙◌}
use Rattle.ps_core.specs.Altering.{altered_oldest}
use Rattle.ps_core.specs.declared.readers.Sent.{Sent}
use Rattle.ps_core.specs.Worlds.{AreWaiting}
use Rattle.ps_core.proofs.Altered.{altered_so}
use Rattle.ps_core.proofs.altering.alter.Goals as goal

pub returns-in-Ok : goal.returns-in-Ok
returns-in-Ok c = λ fixed play name store it.
    let many = c.alter_oldest.ensures.as_many ∙ c.make_contiguous.ensures.len in
    let back = c.make_contiguous.ensures.writes_back c.alter_oldest.new.waiting many in
    altered_so fixed play name store c.args.reader.now _ c.in-Some.stream _ it c.in-Some.is
    (λ made are.
    let done = c.in-Ok.ensures.alters made (subst (λ (lines : List Sent). AreWaiting lines made) (sym c.make_contiguous.ensures.value) are) in
    (done.0, subst (λ (lines : List Sent). AreWaiting lines (altered_oldest made)) (sym back) done.1)) refl refl refl refl
