use Rattle.std.proofs.Common.{◌≡◌, ◌∙◌, ◌+◌, ◌<◌, ◌++◌, ◌∷◌, [], length, refl, ap, inr, arith, length-append}
use Rattle.ps_client.specs.Clients.{asked}
use Rattle.ps_client.specs.States.{state}
use Rattle.ps_progress.specs.Meters.{nothing}
use Rattle.std.proofs.lemmas.List.Elements.{All-nil}
use Rattle.ps_syncing.specs.Runs.{IsShort, most_streams, next, none}
use Rattle.ps_syncing.specs.Streams.{EndsApplied, EndsRefused}
use Rattle.ps_syncing.proofs.LongLines.{short_refused}
use Rattle.ps_syncing.proofs.Failing.{Closes-none, Closes-more, FailsSo-later, FailsSo-stream}
use Rattle.ps_syncing.proofs.Hearing.{hears_more}
use Rattle.ps_syncing.proofs.Stepping.{stream_one}
use Rattle.ps_syncing.proofs.runs.stream_until_applied.Goals as goal

pub streams-init : goal.streams-init
streams-init g c = record {
  refused = ([], Closes-none (g.L.Link.closed c.args.link.now), refl, none);
  out = refl;
  heard = nothing;
  name = refl;
  faults = omega arith;
  kept = refl;
}

pub streams-preserved : goal.streams-preserved
streams-preserved g c =
    let service = c.args.service.now in
    let start = g.L.Link.closed c.args.link.now in
    let old = g.L.Link.closed c.streams.link in
    let new = g.L.Link.closed c.stream.new.link in
    let was = state c.streams.client in
    let is = state c.stream.new.client in
    let so_far = c.streams.invariant.refused in
    let said = rw c.in-Ok-Refused.field-0-is at c.in-Ok-Refused.ensures.streams in
    let last = stream_one service was old new (λ exchange. EndsRefused exchange (asked was) is) said in
    record {
      refused = (
        so_far.0 ++ last.0 ∷ [],
        Closes-more start old new so_far.0 (last.0 ∷ []) so_far.1 last.1,
        length-append so_far.0 (last.0 ∷ []) ∙ ap (λ n. n + 1) so_far.2,
        next so_far.0 last.0 was is so_far.3 last.2 last.3,
      );
      out = c.in-Ok-Refused.ensures.out ∙ c.streams.invariant.out;
      heard = hears_more c.args.meter.now c.streams.meter c.stream.new.meter c.streams.invariant.heard c.in-Ok-Refused.ensures.heard;
      name = c.in-Ok-Refused.ensures.name ∙ c.streams.invariant.name;
      faults = omega (arith, c.in-Ok-Refused.ensures.faults, c.streams.invariant.faults);
      kept = c.in-Ok-Refused.ensures.quiet ∙ c.streams.invariant.kept;
    }

pub returns-in-Ok-Applied-clause-streams : goal.returns-in-Ok-Applied-clause-streams
returns-in-Ok-Applied-clause-streams g c =
    let service = c.args.service.now in
    let start = g.L.Link.closed c.args.link.now in
    let old = g.L.Link.closed c.streams.link in
    let new = g.L.Link.closed c.stream.new.link in
    let was = state c.streams.client in
    let is = state c.stream.new.client in
    let so_far = c.streams.invariant.refused in
    let said = rw c.in-Ok-Applied.field-0-is at c.in-Ok-Applied.ensures.streams in
    let last = stream_one service was old new (λ exchange. EndsApplied exchange (asked was) is) said in
    let few : length so_far.0 < most_streams = omega (arith, so_far.2, c.streams-test.true) in
    record {
      exchanges = so_far.0 ++ last.0 ∷ [];
      closed = Closes-more start old new so_far.0 (last.0 ∷ []) so_far.1 last.1;
      are = record { refused = so_far.0; last = last.0; before = was; are = refl; few = few; each = so_far.3; asks = last.2; applied = last.3 };
    }

pub returns-in-Err-clause-fails : goal.returns-in-Err-clause-fails
returns-in-Err-clause-fails g c =
    let service = c.args.service.now in
    let so_far = c.streams.invariant.refused in
    FailsSo-later service (g.L.Link.closed c.args.link.now) (g.L.Link.closed c.streams.link) (g.L.Link.closed c.stream.new.link) so_far.0 c.in-Err.fault so_far.1 (short_refused so_far.3)
    (FailsSo-stream service (state c.streams.client) (state c.stream.new.client) (g.L.Link.closed c.streams.link) (g.L.Link.closed c.stream.new.link) c.in-Err.fault c.in-Err.ensures.streams)

pub returns-clause-fails : goal.returns-clause-fails
returns-clause-fails g c =
    let so_far = c.streams.invariant.refused in
    let eight : length so_far.0 ≡ most_streams = omega (arith, so_far.2, c.streams-test.false, c.streams.auto._stream-end) in
    inr (record {
      exchanges = [];
      streams = so_far.0;
      was = state c.args.client.now;
      is = state c.streams.client;
      closed = so_far.1;
      earlier = All-nil IsShort;
      eight = eight;
      each = so_far.3;
    })

pub returns-in-Ok-Applied-clause-heard : goal.returns-in-Ok-Applied-clause-heard
returns-in-Ok-Applied-clause-heard g c = hears_more c.args.meter.now c.streams.meter c.stream.new.meter c.streams.invariant.heard c.in-Ok-Applied.ensures.heard

pub returns-in-Err-clause-heard : goal.returns-in-Err-clause-heard
returns-in-Err-clause-heard g c = hears_more c.args.meter.now c.streams.meter c.stream.new.meter c.streams.invariant.heard c.in-Err.ensures.heard
