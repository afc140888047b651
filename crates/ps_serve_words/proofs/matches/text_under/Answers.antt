use Rattle.std.proofs.Common.{◌∙◌, ap, sym, Some}
use Rattle.std.proofs.lemmas.Result.{IfOk-weaker}
use Rattle.clap.specs.Matches.{found_of}
use Rattle.ps_serve_words.proofs.Rows.{first_in}
use Rattle.ps_serve_words.proofs.matches.text_under.Goals as goal

pub returns-in-Some : goal.returns-in-Some
returns-in-Some c = IfOk-weaker c.from_str.result _ _
    (λ made is. first_in (found_of c.args.matches.now) c.args.name.now ∙ (sym c.in-Some.ensures ∙ ap Some (sym is))) c.from_str.ensures
