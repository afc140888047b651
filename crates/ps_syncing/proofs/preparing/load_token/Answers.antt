use Rattle.std.proofs.Common.{subst, ◌∙◌}
use Rattle.ps_syncing.specs.Preparing.{FindsToken, HasNoToken, ReadsTokenSo}
use Rattle.ps_syncing.proofs.LoadedFiles.{LoadsSo-unread, LoadsToken-read}
use Rattle.ps_syncing.proofs.preparing.load_token.Goals as goal

pub returns-in-Ok-clause-loads : goal.returns-in-Ok-clause-loads
returns-in-Ok-clause-loads g c =
    let loaded = c.in-Ok.ensures.loads in
    LoadsToken-read (g.F.Files.held c.args.files.now) c.args.name.now (g.F.Files.faults c.args.files.now) (g.F.Files.faults c.load.new.files) loaded.0 c.read_token.result loaded.1
    (subst (λ bytes. ReadsTokenSo bytes c.read_token.result) (c.as_slice.ensures.value ∙ loaded.2) c.read_token.ensures)

pub returns-in-Err-clause-loads : goal.returns-in-Err-clause-loads
returns-in-Err-clause-loads g c =
    LoadsSo-unread (g.F.Files.held c.args.files.now) c.args.name.now (g.F.Files.faults c.args.files.now) (g.F.Files.faults c.load.new.files) FindsToken HasNoToken c.in-Err.fault
    c.in-Err.ensures.loads
