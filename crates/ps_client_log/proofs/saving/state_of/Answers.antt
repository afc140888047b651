use Rattle.std.proofs.Common.{◌≡◌, refl, sym, subst, rules}
use Rattle.std.specs.List.{IsDistinct}
use Rattle.ps_client_log.specs.declared.states.State.{State}
use Rattle.ps_client_log.specs.Kept.{kept_of}
use Rattle.ps_client_log.specs.Rooms.{kept_by}
use Rattle.ps_client_log.specs.Soundness.{IsSound, same_row}
use Rattle.ps_client_log.proofs.Telling.{same_kept}
use Rattle.ps_client_log.proofs.saving.state_of.Goals as goal

pub returns : goal.returns
returns c =
    let made : State = record { buckets = c.in_ok-buckets.buckets; queue = c.in_ok-queue.queue; target = c.args.holdings.now.target; shown = c.in_ok-shown.shown } in
    let queue : c.in_ok-queue.queue ≡ c.args.holdings.now.queue.items = search rules in
    let shown : c.in_ok-shown.shown ≡ c.args.holdings.now.shown = search rules in
    let is : kept_of made ≡ kept_by c.args.holdings.now = same_kept made c.args.holdings.now c.in_ok-buckets.ensures.kept queue refl shown in
    record {
      kept = is;
      sound = record {
        kept = subst IsSound (sym is) c.requires.sound;
        names = c.in_ok-buckets.ensures.names;
        keys = c.in_ok-buckets.ensures.keys;
        shown = subst (IsDistinct same_row) (sym shown) c.requires.shown;
      };
    }
