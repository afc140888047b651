use Rattle.std.proofs.Common.{map}
use Rattle.ps_session.specs.Matches.{match_of}
use Rattle.ps_session.proofs.Names.{rise_of}
use Rattle.ps_session.proofs.Walks.{found_next}
use Rattle.ps_session.proofs.matches.matches_among.Goals as goal

pub buckets-preserved : goal.buckets-preserved
buckets-preserved c =
    let others = c.args.others.now in
    let buckets = c.args.buckets.now in
    record {
      within = c.first_not_below-at.ensures.within;
      found = found_next others buckets c.buckets.found.items c.push.new.self.items (map (match_of others) buckets) c.buckets.at c.first_not_below-at.result c.buckets.bucket-index
          c.bucket-item.result c.match_here.result (rise_of others c.requires.those) (rise_of buckets c.requires.these) c.buckets-test.true c.bucket-item.is
          c.first_not_below-at.ensures.front c.match_here.ensures c.in_ok-push.ensures.items c.buckets.invariant.found;
    }
