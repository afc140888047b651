use Rattle.ps_params.proofs.Changes.{notes_stand, notes_read_stand}
use Rattle.ps_params.proofs.laws.notes_of_changes_are_the_source.Goals as goal

pub returns : goal.returns
returns c = record { every = notes_stand; read = notes_read_stand }
