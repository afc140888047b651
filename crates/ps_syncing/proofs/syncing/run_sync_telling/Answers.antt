use Rattle.std.proofs.Common.{◌≡◌, ◌∙◌, Some, inl, inr, refl, sym}
use Rattle.ps_syncing.specs.Syncing.{Outside}
use Rattle.ps_syncing.specs.Words.{sync_of}
use Rattle.ps_syncing.proofs.Ending.{Causes-files, Causes-run, HasDone-run}
use Rattle.ps_syncing.proofs.syncing.run_sync_telling.Goals as goal

pub returns-in-Err-prepare-clause-ends : goal.returns-in-Err-prepare-clause-ends
returns-in-Err-prepare-clause-ends g c =
    let o : Outside = record {
      held = g.F.Files.held c.args.files.now;
      read_before = g.F.Files.faults c.args.files.now;
      read_now = g.F.Files.faults c.prepare.new.files;
      closed_before = g.L.Link.closed c.args.link.now;
      closed_now = g.L.Link.closed c.args.link.now;
      link_before = g.L.Link.faults c.args.link.now;
      link_now = g.L.Link.faults c.args.link.now;
      kept = g.P.Keeper.held c.args.keeper;
      keep_before = g.P.Keeper.faults c.args.keeper;
      keep_now = g.P.Keeper.faults c.args.keeper;
      taken_before = g.K.Sink.taken c.args.out.now;
      taken_now = g.K.Sink.taken c.args.out.now;
      write_before = g.K.Sink.faults c.args.out.now;
      write_now = g.K.Sink.faults c.args.out.now;
    } in
    let is : sync_of c.args.words.now ≡ Some c.in-Ok-Some.named = sym c.in-Ok-Some.ensures ∙ c.in-Ok-Some.field-0-is in
    inr (c.in-Err-prepare.stop, inr (inl (c.in-Ok-Some.named, is, Causes-files o c.in-Ok-Some.named c.in-Err-prepare.stop (refl, refl) c.in-Err-prepare.ensures.refuses)), c.say_stop.ensures)

pub returns-in-Ok-print-clause-ends : goal.returns-in-Ok-print-clause-ends
returns-in-Ok-print-clause-ends g c =
    let o : Outside = record {
      held = g.F.Files.held c.args.files.now;
      read_before = g.F.Files.faults c.args.files.now;
      read_now = g.F.Files.faults c.prepare.new.files;
      closed_before = g.L.Link.closed c.args.link.now;
      closed_now = g.L.Link.closed c.run-found.new.link;
      link_before = g.L.Link.faults c.args.link.now;
      link_now = g.L.Link.faults c.run-found.new.link;
      kept = g.P.Keeper.held c.args.keeper;
      keep_before = g.P.Keeper.faults c.args.keeper;
      keep_now = g.P.Keeper.faults c.run-found.result.1;
      taken_before = g.K.Sink.taken c.args.out.now;
      taken_now = g.K.Sink.taken c.print.new.out;
      write_before = g.K.Sink.faults c.args.out.now;
      write_now = g.K.Sink.faults c.print.new.out;
    } in
    let is : sync_of c.args.words.now ≡ Some c.in-Ok-Some.named = sym c.in-Ok-Some.ensures ∙ c.in-Ok-Some.field-0-is in
    inl (
      refl,
      HasDone-run o c.in-Ok-Some.named c.in-Ok.prepared.service c.in-Ok.prepared.changes c.in-Ok.ensures.prepares c.args.words.now c.run-found.result.0 c.in-Ok-print.field-0 is
          c.run-found.ensures.runs c.in-Ok-print.ensures,
      refl,
    )

pub returns-clause-ends : goal.returns-clause-ends
returns-clause-ends g c =
    let o : Outside = record {
      held = g.F.Files.held c.args.files.now;
      read_before = g.F.Files.faults c.args.files.now;
      read_now = g.F.Files.faults c.prepare.new.files;
      closed_before = g.L.Link.closed c.args.link.now;
      closed_now = g.L.Link.closed c.run-found.new.link;
      link_before = g.L.Link.faults c.args.link.now;
      link_now = g.L.Link.faults c.run-found.new.link;
      kept = g.P.Keeper.held c.args.keeper;
      keep_before = g.P.Keeper.faults c.args.keeper;
      keep_now = g.P.Keeper.faults c.run-found.result.1;
      taken_before = g.K.Sink.taken c.args.out.now;
      taken_now = g.K.Sink.taken c.print.new.out;
      write_before = g.K.Sink.faults c.args.out.now;
      write_now = g.K.Sink.faults c.print.new.out;
    } in
    let is : sync_of c.args.words.now ≡ Some c.in-Ok-Some.named = sym c.in-Ok-Some.ensures ∙ c.in-Ok-Some.field-0-is in
    inr (
      c.in-Err-print.stop,
      inr (inl (
        c.in-Ok-Some.named,
        is,
        Causes-run o c.in-Ok-Some.named c.in-Ok.prepared.service c.in-Ok.prepared.changes c.in-Ok.ensures.prepares c.run-found.result.0 c.in-Err-print.stop
            c.run-found.ensures.runs c.run-found.ensures.failed c.in-Err-print.ensures,
      )),
      c.say_stop-in-Err-print.ensures,
    )
