-- The first bytes are turned to the end and cut off there.
use Rattle.std.proofs.Common.{◌-◌, ◌++◌, ◌∙◌, length, take, drop, ap}
use Rattle.ps_answers.proofs.Pieces.{turned, written_back}
use Rattle.ps_answers.proofs.readers.drop_front.Goals as goal

pub returns : goal.returns
returns c =
    let count = c.args.count in
    let left = length c.as_slice.result.now - count in
    c.truncate.ensures.items
    ∙ ap (take left) (written_back c.args.bytes.now.len c.rotate_left.new.self _ (c.rotate_left.ensures.len ∙ c.as_mut_slice.ensures.len))
    ∙ ap (take left) c.rotate_left.ensures.after
    ∙ ap (λ bytes. take left (drop count bytes ++ take count bytes)) c.as_mut_slice.ensures.value
    ∙ turned c.args.bytes.now.items count left (ap (λ bytes. length bytes - count) c.as_slice.ensures.value)
