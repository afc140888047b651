use Rattle.sqlite.specs.Files.{file_state}
use Rattle.ps_client_file.proofs.Joined.{if_two}
use Rattle.ps_client_file.proofs.files.open_store.Goals as goal

pub returns-in-Ok-clause-found : goal.returns-in-Ok-clause-found
returns-in-Ok-clause-found g c =
    if_two c.open_hashed.result
    (λ k rows clean disk alive. record { trees = (file_state c.in-Ok.connection).committed.trees; is_held = (c.in-Ok.ensures.found (clean disk)).holds; found = (c.in-Ok.ensures.found (clean disk)).reads; from = rows disk alive })
    c.open_hashed.ensures.rows c.open_hashed.ensures.clean
