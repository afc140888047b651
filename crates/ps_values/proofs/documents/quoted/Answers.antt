use Rattle.std.proofs.Common.{◌≡◌, [], ◌∷◌, ◌++◌, ap, ◌∙◌, rules}
use Rattle.json.specs.Token.{string}
use Rattle.json.specs.Print.{print}
use Rattle.ps_values.proofs.Written.{quoted_written}
use Rattle.ps_values.proofs.documents.quoted.Goals as goal

pub returns : goal.returns
returns c =
    let writer = c.string.new.self in
    let before : writer.before ≡ [] = search rules in
    let written : writer.tokens ≡ string c.args.text.now ∷ [] = search rules in
    c.text_written.ensures ∙ ap (λ front. front ++ print writer.tokens) before ∙ ap print written ∙ quoted_written c.args.text.now
