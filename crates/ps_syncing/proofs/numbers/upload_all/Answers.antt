use Rattle.std.proofs.Common.{◌∙◌, refl, arith}
use Rattle.ps_client.specs.States.{state}
use Rattle.ps_syncing.proofs.Failing.{FailsSo-later}
use Rattle.ps_syncing.proofs.LongLines.{short_uploads}
use Rattle.ps_syncing.proofs.Stepping.{UploadsSome-none, UploadsSome-more}
use Rattle.ps_syncing.proofs.numbers.upload_all.Goals as goal

pub uploads-init : goal.uploads-init
uploads-init g c = record {
  some = UploadsSome-none c.args.service.now (state c.args.client.now) (g.L.Link.closed c.args.link.now);
  out = refl;
  name = refl;
  faults = omega arith;
  kept = refl;
}

pub uploads-preserved : goal.uploads-preserved
uploads-preserved g c =
    let first = rw c.in-Ok-true.field-0-test at c.in-Ok-true.ensures.uploads in
    record {
      some = UploadsSome-more c.args.service.now (state c.args.client.now) (state c.uploads.client) (state c.upload_one.new.client) (g.L.Link.closed c.args.link.now)
          (g.L.Link.closed c.uploads.link) (g.L.Link.closed c.upload_one.new.link) c.uploads.invariant.some first;
      out = c.in-Ok-true.ensures.out ∙ c.uploads.invariant.out;
      name = c.in-Ok-true.ensures.name ∙ c.uploads.invariant.name;
      faults = omega (arith, c.in-Ok-true.ensures.faults, c.uploads.invariant.faults);
      kept = c.in-Ok-true.ensures.quiet ∙ c.uploads.invariant.kept;
    }

pub returns-in-Err-clause-fails : goal.returns-in-Err-clause-fails
returns-in-Err-clause-fails g c =
    FailsSo-later c.args.service.now (g.L.Link.closed c.args.link.now) (g.L.Link.closed c.uploads.link) (g.L.Link.closed c.upload_one.new.link)
    c.uploads.invariant.some.exchanges c.in-Err.fault c.uploads.invariant.some.closed
    (short_uploads c.args.service.now c.uploads.invariant.some.sent c.uploads.invariant.some.exchanges c.uploads.invariant.some.each) c.in-Err.ensures.fails
