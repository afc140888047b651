use Rattle.std.proofs.Common.{ℕ, List, [], ◌∷◌, subst, refl}
use Rattle.std.proofs.lemmas.Result.{err_from_is_err_and}
use Rattle.ps_changes.specs.LongLines.{IsLongChange}
use Rattle.ps_client_lines.specs.declared.cells.Cell.TheVariants.{Int, Text}
use Rattle.ps_client_lines.proofs.Bad.{bad_then, write_text}
use Rattle.ps_client_lines.proofs.reading.write_in.Goals as goal

pub returns-in_err-change-clause-bad : goal.returns-in_err-change-clause-bad
returns-in_err-change-clause-bad c =
    let p = err_from_is_err_and c.from_residual.result c.from_residual.ensures.1 in
    let text = c.args.text.now in
    rw (p.1, p.2)
    (bad_then c.in_err-change.field-0.0
    (λ not (line, same, long). not line.change (subst (λ (t : List ℕ). IsLongChange t line.change) (write_text (Int c.args.seq ∷ Text text ∷ []) c.args.seq text line refl same) long)) c.in_err-change.ensures.bad)
