use Rattle.std.proofs.Common.{Err, List, ℕ, Option, option_map, refl, subst}
use Rattle.ps_io.specs.Contents.{Contents}
use Rattle.ps_syncing.specs.Preparing.{LoadsUploads}
use Rattle.ps_syncing.proofs.LoadedFiles.{RefusesFiles-upload}
use Rattle.ps_syncing.proofs.preparing.prepare.Goals as goal

pub returns-in-Err-load_uploads-clause-refuses : goal.returns-in-Err-load_uploads-clause-refuses
returns-in-Err-load_uploads-clause-refuses g c =
    let named = c.args.named.now in
    let held = g.F.Files.held c.args.files.now in
    let middle = g.F.Files.faults c.load_token.new.files in
    let now = g.F.Files.faults c.load_uploads.new.files in
    let stop = c.in-Err-load_uploads.stop in
    let loaded = c.in-Ok.ensures.loads in
    RefusesFiles-upload held (g.F.Files.faults c.args.files.now) middle now named stop named.upload c.load_token.ensures.faults
    (c.in-Ok.token, record { bytes = loaded.0; file = loaded.1; read = loaded.2 }) refl
    (subst (λ (v : Option (List ℕ)). LoadsUploads held v middle now (Err stop)) c.as_ref.ensures.value
    (subst (λ (v : Option Contents). LoadsUploads v (option_map (λ text. text.now) c.as_ref.result) middle now (Err stop)) c.load_token.ensures.held
    c.in-Err-load_uploads.ensures.loads))
