use Rattle.std.proofs.Common.{◌∙◌, ap, sym, Some}
use Rattle.clap.specs.Matches.{found_of}
use Rattle.ps_serve_words.proofs.Rows.{first_in}
use Rattle.ps_serve_words.proofs.matches.some_text_under.Goals as goal

pub returns-in_ok-from_str-in-Some : goal.returns-in_ok-from_str-in-Some
returns-in_ok-from_str-in-Some c = first_in (found_of c.args.matches.now) c.args.name.now ∙ (sym c.in-Some.ensures ∙ ap Some (sym c.in_ok-from_str-in-Some.ensures))

pub returns-in-None : goal.returns-in-None
returns-in-None c = first_in (found_of c.args.matches.now) c.args.name.now ∙ sym c.in-None.ensures
