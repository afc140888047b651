use Rattle.std.proofs.Common.{length, ◌+◌, ap, ◌∙◌, ◌∷◌, [], ◌++◌, sym, subst}
use Rattle.ps_definitions.specs.RuleSets.{RuleSet}
use Rattle.ps_lock.specs.Words.{history_of, own_entries_in}
use Rattle.ps_store.specs.declared.events.Event.TheVariants.{Deploy}
use Rattle.ps_store.specs.Stores.{StoreStandsFor}
use Rattle.ps_workers.specs.Sharing.{terms_of, fixed_of}
use Rattle.ps_workers.proofs.Narrow.{MayCome, may_deploy}
use Rattle.ps_workers.proofs.Turning.{kept, begins, keeps, leaves, leaves_with, looks, adds, refused_deploy, deploy_stands}
use Rattle.ps_workers.proofs.renewals.deploy_in_turn.Goals as goal

pub leave_with-requires : goal.leave_with-requires
leave_with-requires g c =
    let lock = c.args.lock.now in
    let turn = c.turn-turn.result in
    let lent = c.value.result.now in
    let stands = c.turn-turn.ensures.stands in
    let said = c.in-Ok-deploy.ensures (fixed_of lock) (history_of turn) (begins lock turn lent c.value.ensures.value stands) in
    let copied = subst (λ (r : RuleSet). StoreStandsFor (fixed_of lock) c.deploy.new.self (history_of turn ++ Deploy r ∷ [])) (sym c.in-Ok.ensures) said.3 in
    let may = subst (λ (r : RuleSet). MayCome (terms_of lock) (history_of turn) (Deploy r)) (sym c.in-Ok.ensures)
    (may_deploy (terms_of lock) lent (history_of turn) (kept lock turn lent c.value.ensures.value stands) c.args.rules c.requires.next) in
    leaves_with lock turn lent c.value.ensures.value stands _ c.deploy.new.self c.turn-turn.ensures.lock copied may

pub leave-requires : goal.leave-requires
leave-requires g c =
    let lock = c.args.lock.now in
    let turn = c.turn-turn.result in
    let lent = c.value.result.now in
    let stands = c.turn-turn.ensures.stands in
    let said = c.in-Err-deploy.ensures (fixed_of lock) (history_of turn) (begins lock turn lent c.value.ensures.value stands) in
    leaves lock turn lent c.value.ensures.value stands c.deploy.new.self c.turn-turn.ensures.lock (deploy_stands (fixed_of lock) (history_of turn) c.args.rules c.deploy.new.self c.in-Err-deploy.fault said)

pub returns-in-Ok-deploy-clause-turn : goal.returns-in-Ok-deploy-clause-turn
returns-in-Ok-deploy-clause-turn g c =
    let lock = c.args.lock.now in
    let turn = c.turn-turn.result in
    let lent = c.value.result.now in
    let stands = c.turn-turn.ensures.stands in
    let said = c.in-Ok-deploy.ensures (fixed_of lock) (history_of turn) (begins lock turn lent c.value.ensures.value stands) in
    let copied = ap (λ (r : RuleSet). history_of turn ++ Deploy r ∷ []) c.in-Ok.ensures in
    let own = ap (λ (r : RuleSet). own_entries_in turn ++ (Deploy r, length (history_of turn) + 1) ∷ []) c.in-Ok.ensures in (
      history_of turn,
      (
        adds c.args.seat c.leave_with.result turn c.turn-turn.ensures.seen c.turn-turn.ensures.own (Deploy c.args.rules) (c.leave_with.ensures.seen ∙ copied) (c.leave_with.ensures.own ∙ own),
        said.0,
        said.1,
        said.2,
      ),
    )

pub returns-in-Err-deploy-clause-turn : goal.returns-in-Err-deploy-clause-turn
returns-in-Err-deploy-clause-turn g c =
    let lock = c.args.lock.now in
    let turn = c.turn-turn.result in
    let lent = c.value.result.now in
    let stands = c.turn-turn.ensures.stands in
    let said = c.in-Err-deploy.ensures (fixed_of lock) (history_of turn) (begins lock turn lent c.value.ensures.value stands) in
    let stood = keeps lock turn lent c.value.ensures.value stands c.deploy.new.self (deploy_stands (fixed_of lock) (history_of turn) c.args.rules c.deploy.new.self c.in-Err-deploy.fault said) in (
      history_of turn,
      refused_deploy (terms_of lock) (history_of turn) c.args.rules c.args.seat c.leave.result c.deploy.new.self c.in-Err-deploy.fault (_, stood)
          (looks c.args.seat c.leave.result turn c.turn-turn.ensures.seen c.turn-turn.ensures.own c.leave.ensures.seen c.leave.ensures.own) said,
    )
