use Rattle.store_cases.proofs.Lasting.{compacts_last}
use Rattle.store_cases.proofs.changing.compact.Goals as goal

pub returns-in-Ok : goal.returns-in-Ok
returns-in-Ok c =
    let h = c.requires in
    compacts_last h.0 h.1 c.in_ok-bucket.bucket c.compact.new.self c.compact.result (c.compact.ensures h.0 h.1 h.2)
