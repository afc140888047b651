use Rattle.std.proofs.Common.{◌≡◌, ℕ, Bool, List, ◌++◌, take, take_all, sym, ap, ◌∙◌, subst, add-one}
use Rattle.std.specs.Prelude.{flat_map}
use Rattle.ps_params.specs.Kept.{note_of}
use Rattle.ps_params.specs.Places.{lies_at, places_at}
use Rattle.ps_params.proofs.Numbered.{here, here_more, all_numbers}
use Rattle.ps_params.proofs.places.add_note.Goals as goal

pub numbers-preserved : goal.numbers-preserved
numbers-preserved c = λ number text.
    let lies : Bool = lies_at c.args.paths.now number text (note_of c.args.note.now) in
    subst (λ j. places_at c.add_on_path.new.found (number, text) ≡ places_at c.args.found.now (number, text) ++ flat_map (here lies c.args.place number) (take j c.numbers-number-items.result.now))
    (sym (add-one c.numbers.number-index))
    (here_more lies c.args.place number c.numbers.number-index c.numbers-number-items.result.now (places_at c.args.found.now (number, text)) (places_at c.numbers.found (number, text))
    (places_at c.add_on_path.new.found (number, text)) c.numbers-test.true (c.numbers.invariant number text) (c.in_ok-add_on_path.ensures number text))

pub returns : goal.returns
returns c = λ number text.
    let lies : Bool = lies_at c.args.paths.now number text (note_of c.args.note.now) in
    all_numbers c.args.paths.now (note_of c.args.note.now) number text c.args.place c.numbers-number-items.result.now (places_at c.args.found.now (number, text))
    (places_at c.numbers.found (number, text)) c.numbers-number-items.ensures
    (c.numbers.invariant number text
    ∙ ap (λ (ns : List ℕ). places_at c.args.found.now (number, text) ++ flat_map (here lies c.args.place number) ns)
    (take_all c.numbers.number-index c.numbers-number-items.result.now c.numbers-test.false))
