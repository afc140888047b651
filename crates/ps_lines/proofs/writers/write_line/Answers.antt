use Rattle.std.proofs.Common.{[], ◌∷◌, ◌++◌, ap, ◌∙◌}
use Rattle.json.specs.Print.{print}
use Rattle.ps_lines.proofs.RoundTrips.{read_again}
use Rattle.ps_lines.proofs.Texts.{printed}
use Rattle.ps_lines.specs.Tokens.{tokens_of}
use Rattle.ps_lines.specs.Writing.{line_json}
use Rattle.ps_lines.proofs.writers.write_line.Goals as goal

pub returns-clause-value : goal.returns-clause-value
returns-clause-value c =
    let json = line_json c.args.line.now in
    let written = c.in_ok-write_json.ensures.value in
    c.in_ok-push.ensures.items
    ∙ printed c.args.line.now _ _ _ c.into_inner-bytes.ensures.items (written.before ∙ c.new-writer.ensures.before ∙ c.in_ok-with_capacity.ensures.items)
    (written.tokens ∙ ap (λ ts. ts ++ tokens_of json) c.new-writer.ensures.tokens)

pub returns-clause-read_again : goal.returns-clause-read_again
returns-clause-read_again c =
    let json = line_json c.args.line.now in
    let written = c.in_ok-write_json.ensures in
    let nothing = written.value.before ∙ c.new-writer.ensures.before ∙ c.in_ok-with_capacity.ensures.items in
    read_again c.decimals_read_back.ensures c.args.line.now _ _ c.requires written.sums written.counts
    (c.in_ok-push.ensures.items ∙ ap (λ bytes. bytes ++ 10 ∷ []) (c.into_inner-bytes.ensures.items ∙ ap (λ front. front ++ print c.write_json.new.writer.tokens) nothing))
    (c.into_inner-bytes.ensures.reads_back ∙ written.value.tokens ∙ ap (λ ts. ts ++ tokens_of json) c.new-writer.ensures.tokens)
    c.into_inner-bytes.ensures.utf8
