use Rattle.service_cases.proofs.Staying.{writes_stay}
use Rattle.service_cases.proofs.serving.stores.write_next.Goals as goal

pub write_batch-requires-clause-stands : goal.write_batch-requires-clause-stands
write_batch-requires-clause-stands c = (c.requires.0, c.requires.1, c.requires.2)

pub returns : goal.returns
returns c =
    let r = c.requires in
    writes_stay r.0 r.1 c.args.store.now r.2 c.write_batch.new.self c.write_batch.result (c.write_batch.ensures r.0 r.1 r.2)
