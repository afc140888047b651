use Rattle.std.proofs.Common.{rules, ◌≡◌, ap, ◌∙◌, sym, subst, [], ◌∷◌, Some}
use Rattle.atomic_table.specs.Table.{rest}
use Rattle.ps_lock.specs.Rule.{is_serving, IsKept}
use Rattle.ps_lock.proofs.Keeping.{gives_back}
use Rattle.ps_lock.proofs.tables.StoreLock.give_back.Goals as goal

pub fetch_add-served-requires : goal.fetch_add-served-requires
fetch_add-served-requires g c = let now = c.exchange-taken.ensures.3 in
    let view : c.exchange-taken.new.seat.me.0 ≡ c.args.place.now.me.0 = ap (λ m. m.0) now in
    let carried : c.exchange-taken.new.seat.me.1 ≡ (0, Some c.args.value) ∷ [] = ap (λ m. m.1) now ∙ ap (λ cs. (0, Some c.args.value) ∷ rest cs) c.requires.serving.1 in (
      search rules,
      search rules,
      gives_back g.V.Kept.set_by g.V.Kept.stands _ _ _ _ c.args.value _ (ap (λ v. is_serving v.stage) view ∙ c.requires.serving.0) carried
          (ap (λ v. v.origin) view ∙ c.requires.stands.0)
          (subst (λ v. IsKept g.V.Kept.set_by g.V.Kept.stands c.args.self.now.table.shared.key.value c.args.value v.seen) (sym view) c.requires.stands.1),
    )
