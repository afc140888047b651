use Rattle.std.proofs.Common.{◌≡◌, ◌+◌, ap, sym, ◌∙◌, subst, refl, arith}
use Rattle.std.specs.Prelude.{Ok}
use Rattle.ps_params.specs.Indexes.{Index}
use Rattle.ps_params.specs.Notes.{SameFrom}
use Rattle.ps_store.specs.declared.building.Building.{Building}
use Rattle.ps_store.specs.declared.fixed.Limits.{Limits}
use Rattle.ps_store.specs.declared.logs.Logs.{Logs}
use Rattle.ps_store.specs.declared.rows.Rows.{Rows}
use Rattle.ps_store.specs.declared.stores.Checkpoint.{Checkpoint}
use Rattle.ps_store.specs.Deploys.{Switches}
use Rattle.ps_store.proofs.Switching.{switch_done, queue_gone}
use Rattle.ps_store.proofs.stores.Store.switch.Goals as goal

pub returns : goal.returns
returns c = λ fixed history h.
    let said = c.in-Some-switch.ensures in
    let built : Building = said.0 in
    let checkpoint : Checkpoint = record { position = c.position-position.result; op = record { 0 = c.args.self.now.last.0 + 1 } } in
    let limits : c.limits.result.now.ops ≡ c.args.self.now.fixed.limits.ops = ap (λ (x : Limits). x.ops) c.limits.ensures in
    subst (λ (parts : Logs × Rows × Index). Switches fixed history (record c.args.self.now {
      logs = parts.0;
      rows = parts.1;
      index = c.forget.new.self;
      last = record { 0 = c.args.self.now.last.0 + 1 };
      checkpoint = checkpoint;
      committed = c.reached_count-self.result;
      generations = c.switch.new.self;
    }) (Ok checkpoint)) (sym said.2)
    (switch_done fixed c.args.self.now history h c.switch.new.self (record { 0 = c.args.self.now.last.0 + 1 }) built said.1
    (queue_gone c.args.self.now.generations.building c.in-Some.building built c.in-Some.is said.1.was (omega (arith, c.len-left.ensures)))
    (omega (arith, c.over-changes.ensures)) (omega (arith, limits)) refl
    c.forget.new.self checkpoint c.reached_count-self.result
    (c.forget.ensures.rules ∙ ap (λ (parts : Logs × Rows × Index). parts.2.rules) said.2)
    (c.forget.ensures.last ∙ ap (λ (parts : Logs × Rows × Index). parts.2.last) said.2)
    (omega (arith, c.forget.ensures.forgotten, ap (λ (parts : Logs × Rows × Index). parts.2.forgotten) said.2, c.position-position.ensures))
    (subst (λ (parts : Logs × Rows × Index). SameFrom c.forget.new.self.forgotten parts.2.notes c.forget.new.self.notes) said.2 c.forget.ensures.notes)
    c.position-position.ensures refl c.reached_count-self.ensures)
