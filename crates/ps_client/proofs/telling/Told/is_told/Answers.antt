use Rattle.std.proofs.Common.{ap, ◌∙◌}
use Rattle.std.specs.Prelude.{is_some}
use Rattle.ps_client.specs.Tables.{is_told}
use Rattle.ps_client.proofs.ToldEntries.{lookup_at}
use Rattle.ps_client.proofs.telling.Told.is_told.Goals as goal

pub returns : goal.returns
returns c =
    c.contains_key.ensures
    ∙ ap is_some (lookup_at c.args.name.now c.self.inside.map.entries)
    ∙ ap (λ entries. is_told entries c.args.name.now) c.self.view_is
