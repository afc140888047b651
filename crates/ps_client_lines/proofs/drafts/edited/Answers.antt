use Rattle.std.proofs.Common.{◌≡◌, refl, sym, ap, subst, ◌∙◌}
use Rattle.ps_client_log.specs.declared.states.State.{State}
use Rattle.ps_client_log.specs.Kept.{Kept, kept_of}
use Rattle.ps_client_log.specs.Edits.{with_edits}
use Rattle.ps_client_log.specs.Soundness.{IsSound}
use Rattle.ps_client_log.proofs.Sound.{with_edits-sound}
use Rattle.ps_client_lines.specs.declared.drafts.Draft.{Draft}
use Rattle.ps_client_lines.specs.Images.{draft_kept}
use Rattle.ps_client_lines.proofs.Listed.{same_kept}
use Rattle.ps_client_lines.proofs.drafts.edited.Goals as goal

pub returns-clause-kept : goal.returns-clause-kept
returns-clause-kept c =
    let state = c.args.state in
    let first : Draft = record { images = c.in_ok-images_of.field-0; queue = c.into_vec.result; target = state.target; shown = state.shown } in
    let last = c.make_all.new.self in
    let next : State = record { buckets = c.in_ok-states_of.field-0; queue = c.from_vec.result; target = last.target; shown = last.shown } in
    let begun : kept_of state ≡ draft_kept first = same_kept state first (λ name. sym (c.in_ok-images_of.ensures name)) (sym c.into_vec.ensures) refl refl in
    same_kept next last c.in_ok-states_of.ensures.kept c.from_vec.ensures refl refl
    ∙ c.in_ok-make_all.ensures.kept ∙ sym (ap (λ (kept : Kept). with_edits kept c.args.edits.now) begun)

pub returns-clause-sound : goal.returns-clause-sound
returns-clause-sound c =
    let state = c.args.state in
    let first : Draft = record { images = c.in_ok-images_of.field-0; queue = c.into_vec.result; target = state.target; shown = state.shown } in
    let last = c.make_all.new.self in
    let next : State = record { buckets = c.in_ok-states_of.field-0; queue = c.from_vec.result; target = last.target; shown = last.shown } in
    let begun : kept_of state ≡ draft_kept first = same_kept state first (λ name. sym (c.in_ok-images_of.ensures name)) (sym c.into_vec.ensures) refl refl in
    let is : kept_of next ≡ with_edits (kept_of state) c.args.edits.now =
    same_kept next last c.in_ok-states_of.ensures.kept c.from_vec.ensures refl refl
    ∙ c.in_ok-make_all.ensures.kept ∙ sym (ap (λ (kept : Kept). with_edits kept c.args.edits.now) begun) in
    record {
      kept = subst IsSound (sym is) (with_edits-sound c.args.edits.now (kept_of state) c.requires.sound.kept c.requires.can);
      names = c.in_ok-states_of.ensures.names;
      keys = c.in_ok-states_of.ensures.keys;
      shown = c.in_ok-make_all.ensures.shown;
    }
