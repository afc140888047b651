use Rattle.store_cases.proofs.Lasting.{writes_last}
use Rattle.store_cases.proofs.changing.write_next.Goals as goal

pub returns : goal.returns
returns c =
    let h = c.requires in
    writes_last h.0 h.1 c.clamp.result c.write_batch.new.self c.write_batch.result (c.write_batch.ensures h.0 h.1 h.2)
