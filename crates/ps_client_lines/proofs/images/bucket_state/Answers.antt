use Rattle.std.proofs.Common.{List, map, sym, subst}
use Rattle.std.specs.List.{IsDistinct}
use Rattle.ps_bucket_log.specs.Ops.{same_key}
use Rattle.ps_client_log.specs.declared.states.Held.{Held}
use Rattle.ps_client_lines.proofs.Listed.{listed-distinct}
use Rattle.ps_client_lines.proofs.images.bucket_state.Goals as goal

pub returns-clause-keys : goal.returns-clause-keys
returns-clause-keys c =
    subst (λ (entries : List Held). IsDistinct same_key (map (λ (held : Held). held.key) entries)) (sym c.in_ok-held.ensures)
    (listed-distinct c.args.image.held.entries c.as_slice-entries.ensures.unique)
