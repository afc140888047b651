use Rattle.std.proofs.Common.{◌≡◌}
use Rattle.ps_client_log.specs.declared.holdings.Holdings.{Holdings}
use Rattle.ps_client_log.specs.declared.states.Target.TheVariants.{Free}
use Rattle.ps_client_log.specs.Kept.{nothing_kept, shown_in}
use Rattle.ps_client_log.specs.Rooms.{kept_by}
use Rattle.ps_client_log.proofs.Sound.{nothing_held}
use Rattle.ps_client_log.proofs.holdings.Holdings.new.Goals as goal

pub returns-clause-held : goal.returns-clause-held
returns-clause-held c =
    let made : Holdings = record { buckets = c.new.result; queue = c.new-2.result; target = Free; shown = c.new-3.result } in
    let is : kept_by made ≡ nothing_kept = λ i. record {
      bucket = λ name. c.new.ensures name i;
      queue = c.new-2.ensures i;
      target = Free;
      shown = shown_in (c.new-3.ensures i);
    } in
    nothing_held made is c.new-3.ensures
