use Rattle.std.proofs.Common.{rules, ap, ◌∙◌, sym, ◌∷◌, Some}
use Rattle.atomic_table.specs.Table.{rest}
use Rattle.ps_lock.proofs.Keeping.{learns}
use Rattle.ps_lock.proofs.tables.StoreLock.turn.Goals as goal

pub exchange-requires : goal.exchange-requires
exchange-requires g c = let came = c.wait_for.ensures.1 in let e = ap (λ m. m.1) came.4 in (search rules, (Some came.1, e ∙ ap (λ cs. (0, Some came.1) ∷ rest cs) (sym e)))

pub load-seen-requires : goal.load-seen-requires
load-seen-requires g c = let came = c.wait_for.ensures.1 in let is = ap (λ m. m.0.stage) c.exchange.ensures.3 ∙ ap (λ m. m.0.stage) came.4 in
    (search rules, search rules, learns g.V.Kept.set_by g.V.Kept.stands _ _ _ _ _ came.2 is)
