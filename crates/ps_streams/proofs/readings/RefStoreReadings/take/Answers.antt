use Rattle.std.proofs.Common.{[], refl}
use Rattle.ps_streams.proofs.Stores.{serves_still, takes_still}
use Rattle.ps_streams.proofs.readings.RefStoreReadings.take.Goals as goal

pub returns : goal.returns
returns c = λ fixed history serves. (
  [],
  refl,
  serves_still fixed c.args.self.now.now history serves,
  takes_still fixed history c.args.asker.now c.take_uncounted.result (c.take_uncounted.ensures fixed history serves),
)
