use Rattle.std.proofs.Common.{subst, ◌∙◌}
use Rattle.ps_syncing.specs.Preparing.{FindsChanges, HasBadLine, ReadsUploadSo}
use Rattle.ps_syncing.proofs.LoadedFiles.{LoadsSo-unread, LoadsUpload-read}
use Rattle.ps_syncing.proofs.preparing.load_upload.Goals as goal

pub returns-in-Ok-clause-loads : goal.returns-in-Ok-clause-loads
returns-in-Ok-clause-loads g c =
    let loaded = c.in-Ok.ensures.loads in
    LoadsUpload-read (g.F.Files.held c.args.files.now) c.args.name.now (g.F.Files.faults c.args.files.now) (g.F.Files.faults c.load.new.files) loaded.0 c.read_upload.result loaded.1
    (subst (λ bytes. ReadsUploadSo bytes c.read_upload.result) (c.as_slice.ensures.value ∙ loaded.2) c.read_upload.ensures.reads)

pub returns-in-Err-clause-loads : goal.returns-in-Err-clause-loads
returns-in-Err-clause-loads g c =
    LoadsSo-unread (g.F.Files.held c.args.files.now) c.args.name.now (g.F.Files.faults c.args.files.now) (g.F.Files.faults c.load.new.files) FindsChanges HasBadLine c.in-Err.fault
    c.in-Err.ensures.loads
