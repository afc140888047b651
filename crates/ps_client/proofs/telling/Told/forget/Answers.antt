use Rattle.std.proofs.Common.{◌≡◌, [], ◌∷◌, ◌+◌, drop, sym, ap, ◌∙◌, arith}
use Rattle.std.proofs.lemmas.List.{drop_more, drop_all}
use Rattle.ps_client.specs.Tables.{without}
use Rattle.ps_client.proofs.ToldEntries.{without_more, without_none}
use Rattle.ps_client.proofs.telling.Told.forget.Goals as goal

pub names-preserved : goal.names-preserved
names-preserved c =
    let names = c.args.names.now in
    let i = c.names.name-index in
    let name = c.name-item.result in
    let next : drop i names ≡ name ∷ drop (i + 1) names =
    drop_more names i name (omega arith) ∙ ap (λ first. first ∷ drop (i + 1) names) (sym c.name-item.is) in
    ap (without (drop (i + 1) names)) c.forget_one.ensures
    ∙ without_more name (drop (i + 1) names) c.names.self
    ∙ ap (λ left. without left c.names.self) (sym next)
    ∙ c.names.invariant

pub returns : goal.returns
returns c =
    let names = c.args.names.now in
    let all : drop c.names.name-index names ≡ [] = drop_all c.names.name-index names (omega arith) in
    sym (without_none c.names.self) ∙ ap (λ left. without left c.names.self) (sym all) ∙ c.names.invariant
