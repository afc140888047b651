use Rattle.std.proofs.Common.{sym, ◌∙◌}
use Rattle.std.proofs.lemmas.Result.{on_ok_weaker}
use Rattle.ps_params.specs.Kept.{note_of}
use Rattle.ps_params.specs.Places.{places_at}
use Rattle.ps_params.proofs.Finding.{lies_once}
use Rattle.ps_params.proofs.places.add_on_path.Goals as goal

pub returns : goal.returns
returns c = on_ok_weaker c.add_place.result
    (λ put other text. lies_once c.args.paths.now (note_of c.args.note.now) c.args.number other text c.args.place (λ m u. places_at c.args.found.now (m, u))
    c.in-Some-2.text c.in-Some.path.now (λ m u. places_at c.add_place.new.found (m, u)) (sym c.in-Some.ensures) (sym c.in_ok-text.ensures ∙ c.in-Some-2.is) (put (other, text)))
    c.add_place.ensures
