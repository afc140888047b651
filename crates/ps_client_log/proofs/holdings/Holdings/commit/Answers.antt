use Rattle.std.proofs.Common.{◌≡◌, sym, ap, subst, ◌∙◌}
use Rattle.std.specs.List.{IsDistinct}
use Rattle.ps_client_log.specs.Soundness.{IsSound, same_row}
use Rattle.ps_client_log.specs.Edits.{with_edits}
use Rattle.ps_client_log.specs.Rooms.{kept_by}
use Rattle.ps_client_log.proofs.Sound.{with_edits-sound}
use Rattle.ps_client_log.proofs.holdings.Holdings.commit.Goals as goal

pub returns-clause-held : goal.returns-clause-held
returns-clause-held c =
    let old = kept_by c.args.self.now in
    let is : kept_by c.tidy.new.self ≡ with_edits old c.args.edits.now =
    c.tidy.ensures.kept ∙ c.make_all.ensures.kept ∙ ap (λ kept. with_edits kept c.into_vec.result.items) c.in_ok-rooms.ensures.kept
    ∙ ap (with_edits old) (c.into_vec.ensures ∙ c.in_ok-copies.ensures) in
    record {
      sound = subst IsSound (sym is) (with_edits-sound c.args.edits.now old c.requires.held.sound c.requires.can);
      shown = subst (IsDistinct same_row) (sym c.tidy.ensures.shown)
          (c.make_all.ensures.shown (subst (IsDistinct same_row) (sym c.in_ok-rooms.ensures.shown) c.requires.held.shown));
    }
