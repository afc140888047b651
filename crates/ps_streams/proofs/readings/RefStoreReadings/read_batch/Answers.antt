use Rattle.std.proofs.Common.{[], refl}
use Rattle.ps_streams.proofs.Stores.{serves_still, reads_still}
use Rattle.ps_streams.proofs.readings.RefStoreReadings.read_batch.Goals as goal

pub returns : goal.returns
returns c = λ fixed history serves. (
  [],
  refl,
  serves_still fixed c.args.self.now.now history serves,
  reads_still fixed history c.args.bucket.now c.args.after c.args.upto c.read_uncounted.result (c.read_uncounted.ensures fixed history serves),
)
