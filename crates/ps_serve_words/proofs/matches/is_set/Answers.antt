use Rattle.std.proofs.Common.{◌∙◌, ap, sym, false, codes}
use Rattle.std.specs.Option.{option_map_or}
use Rattle.std.specs.Str.{bytes_eq}
use Rattle.clap.specs.Matches.{found_of}
use Rattle.ps_serve_words.proofs.Rows.{first_in}
use Rattle.ps_serve_words.proofs.matches.is_set.Goals as goal

pub returns-in-Some : goal.returns-in-Some
returns-in-Some c =
    ap (λ o. option_map_or (λ text. bytes_eq text (codes "true")) o false)
    (first_in (found_of c.args.matches.now) c.args.name.now ∙ sym c.in-Some.ensures) ∙ sym c.eq.ensures

pub returns-in-None : goal.returns-in-None
returns-in-None c =
    ap (λ o. option_map_or (λ text. bytes_eq text (codes "true")) o false)
    (first_in (found_of c.args.matches.now) c.args.name.now ∙ sym c.in-None.ensures)
