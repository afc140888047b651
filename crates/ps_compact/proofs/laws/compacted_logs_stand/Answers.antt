use Rattle.ps_compact.proofs.Clearing.{Laws, compacted_stands}
use Rattle.ps_compact.proofs.laws.compacted_logs_stand.Goals as goal

pub returns : goal.returns
returns c =
    let laws : Laws = record {
      stays = c.batches_keep_readers_honest.ensures.honest_up_to;
      afresh = c.honest_readers_stay_honest.ensures.afresh;
      itself = c.standing_logs_stay_standing.ensures.untouched;
      log = c.standing_logs_stay_standing.ensures.log;
      level = c.standing_logs_stay_standing.ensures.level;
      sums = c.standing_logs_have_the_sums_of_their_originals.ensures;
      total = c.totals_are_sums.ensures.total;
      place = c.readers_stand_at_the_last_id.ensures.place;
    } in
    compacted_stands laws
