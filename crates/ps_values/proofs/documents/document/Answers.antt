use Rattle.std.proofs.Common.{◌≡◌, [], ◌∷◌, ◌++◌, false, ap, ◌∙◌, rules}
use Rattle.json.specs.Token.{begin_object}
use Rattle.json.specs.Print.{print}
use Rattle.ps_data.specs.Documents.{members_of}
use Rattle.ps_values.specs.Writing.{members_tokens, with_id}
use Rattle.ps_values.proofs.Written.{document_written}
use Rattle.ps_values.proofs.documents.document.Goals as goal

pub returns : goal.returns
returns c =
    let writer = c.write_members.new.writer in
    let before : writer.before ≡ [] = search rules in
    let written : writer.tokens ≡ (begin_object ∷ []) ++ members_tokens (with_id false c.args.id.now (members_of c.args.columns.now)) = search rules in
    c.text_written.ensures ∙ ap (λ front. front ++ print writer.tokens) before ∙ document_written c.args.id.now c.args.columns.now writer.tokens written
