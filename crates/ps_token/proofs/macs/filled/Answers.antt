use Rattle.std.proofs.Common.{◌≡◌, ℕ, ◌++◌, List, length, drop, ap, ◌∙◌}
use Rattle.std.specs.Prelude.{replicate}
use Rattle.std.proofs.lemmas.List.{drop-replicate}
use Rattle.ps_token.specs.Macs.{filled}
use Rattle.ps_token.proofs.macs.filled.Goals as goal

pub returns : goal.returns
returns c =
    let key = c.args.key.now in
    let whole : c.copy_from_slice.new.self ++ drop (length key) (replicate 64 0) ≡ filled key =
    ap (λ (front : List ℕ). front ++ drop (length key) (replicate 64 0)) c.copy_from_slice.ensures.after
    ∙ ap (λ (back : List ℕ). key ++ back) (drop-replicate (length key) 64 0) in
    whole
