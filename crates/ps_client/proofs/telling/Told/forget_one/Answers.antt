use Rattle.std.proofs.Common.{List, ℕ, not, filter, ap, ◌∙◌}
use Rattle.std.specs.Prelude.{bytes_eq}
use Rattle.ps_lines.specs.declared.lines.Entry.{Entry}
use Rattle.ps_client.proofs.ToldEntries.{removed}
use Rattle.ps_client.proofs.telling.Told.forget_one.Goals as goal

pub returns : goal.returns
returns c =
    c.remove-entry.ensures.entries
    ∙ removed c.args.name.now c.self.inside.map.entries c.len-count.ensures.ordered
    ∙ ap (filter (λ (pair : List ℕ × Entry). not (bytes_eq pair.0 c.args.name.now))) c.self.view_is
