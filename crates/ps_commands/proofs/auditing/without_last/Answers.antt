use Rattle.std.proofs.Common.{ℕ, List, length, take, ap, sym, ◌∙◌, Vec}
use Rattle.std.specs.Prelude.{◌-◌}
use Rattle.std.specs.declared.alloc.Global.{Global}
use Rattle.std.proofs.lemmas.List.{take-map, length-map}
use Rattle.ps_audit.specs.Judging.{texts}
use Rattle.ps_commands.proofs.auditing.without_last.Goals as goal

abbrev bytes_of : Vec ℕ Global → List ℕ
bytes_of line = line.items

pub returns : goal.returns
returns c =
    ap texts c.pop-behind.ensures.rest
    ∙ ap (λ n. texts (take (n - 1) c.args.lines.items)) c.args.lines.ok.0
    ∙ sym (take-map bytes_of (length c.args.lines.items - 1) c.args.lines.items)
    ∙ ap (λ n. take (n - 1) (texts c.args.lines.items)) (sym (length-map c.args.lines.items bytes_of))
