use Rattle.ps_lock.specs.Words.{seen_by}
use Rattle.ps_serving.proofs.Fronts.{prefix_trans}
use Rattle.ps_serving.proofs.running.run_all.Goals as goal

pub returns-clause-wrote : goal.returns-clause-wrote
returns-clause-wrote g c =
    let w = c.run_threads-has_writer.ensures.wrote in
    let own = seen_by c.run_threads-has_writer.result.1.0 in
    let one = seen_by c.join_in.new.seat in
    let two = seen_by c.join_in-2.new.seat in
    record {
      seen = w.seen;
      later = w.later;
      earlier = prefix_trans w.seen own two w.earlier (prefix_trans own one two c.join_in.ensures.one.1 c.join_in-2.ensures.one.0);
      fed = w.fed;
      ends = w.ends;
    }

pub returns-clause-served : goal.returns-clause-served
returns-clause-served g c = λ history later valid.
    let own = seen_by c.run_threads-has_writer.result.2.1.0 in
    let one = seen_by c.join_in.new.seat in
    let two = seen_by c.join_in-2.new.seat in
    c.run_threads-has_writer.ensures.served history (prefix_trans own two history (prefix_trans own one two c.join_in.ensures.one.0 c.join_in-2.ensures.one.0) later) valid
