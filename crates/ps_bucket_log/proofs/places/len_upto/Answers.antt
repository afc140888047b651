use Rattle.ps_bucket_log.proofs.Found.{cut_at}
use Rattle.ps_bucket_log.proofs.places.len_upto.Goals as goal

pub returns-clause-front : goal.returns-clause-front
returns-clause-front g c =
    (cut_at 0 c.args.id.0 c.place_past.result c.args.ops.now c.requires c.place_past.ensures.within c.place_past.ensures.front c.place_past.ensures.back).0

pub returns-clause-back : goal.returns-clause-back
returns-clause-back g c =
    (cut_at 0 c.args.id.0 c.place_past.result c.args.ops.now c.requires c.place_past.ensures.within c.place_past.ensures.front c.place_past.ensures.back).1
