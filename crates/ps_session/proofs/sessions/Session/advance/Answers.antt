use Rattle.std.proofs.Common.{◌+◌, List, drop, ap, ◌∙◌}
use Rattle.ps_data.specs.declared.ids.OpId.{OpId}
use Rattle.ps_bucket_log.specs.declared.takes.TakenBucket.{TakenBucket}
use Rattle.ps_session.specs.Kept.{done_front}
use Rattle.ps_session.proofs.Seats.{length_set, done_after}
use Rattle.ps_session.proofs.sessions.Session.advance.Goals as goal

pub invariant_of-self : goal.invariant_of-self
invariant_of-self c =
    let cursor = c.self.inside.cursor in
    let buckets = c.self.inside.last.buckets in
    let places = c.self.inside.places.items in
    record {
      rise = c.self.invariant.rise;
      beside = length_set places cursor c.args.place ∙ c.self.invariant.beside;
      done =
          c.first_behind-self-inside.ensures
          ∙ ap (λ (bs : List TakenBucket). cursor + done_front (drop cursor bs) (drop cursor c.as_slice-2.result.now)) c.as_slice.ensures
          ∙ ap (λ (ps : List OpId). cursor + done_front (drop cursor buckets) (drop cursor ps)) c.as_slice-2.ensures.value
          ∙ done_after buckets places c.args.place cursor c.self.invariant.done;
    }
