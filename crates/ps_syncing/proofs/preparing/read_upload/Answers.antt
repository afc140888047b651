use Rattle.ps_syncing.proofs.LoadedFiles.{ReadsUploadSo-refused}
use Rattle.ps_syncing.proofs.preparing.read_upload.Goals as goal

pub returns-in-Err-clause-reads : goal.returns-in-Err-clause-reads
returns-in-Err-clause-reads c =
    rw c.fault_of.ensures (ReadsUploadSo-refused c.args.bytes.now c.in-Err.refused.line c.in-Err.refused.fault c.in-Err.ensures.read)
