use Rattle.ps_store.proofs.Through.{come_through}
use Rattle.ps_store.proofs.laws.readers_come_through.Goals as goal

pub returns : goal.returns
returns c = come_through c.logs_stand_for_originals.ensures c.batches_keep_readers_honest.ensures.honest c.batches_keep_readers_honest.ensures.honest_up_to c.readers_are_whole_at_the_newest.ensures
    c.batches_are_the_log.ensures.longest
