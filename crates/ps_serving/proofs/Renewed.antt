-- Where the store is drained, all transactions are committed, so the next rules came if they were to wait for no more than those of the change file.
use Rattle.std.proofs.Common.{◌≡◌, ◌∙◌, ℕ, ◌≤◌, Bool, true, false, cond, List, [], ◌∷◌, ◌++◌, Option, Some, None, refl, ap, fold, length, arith, inl, inr}
use Rattle.std.specs.Prelude.{IsSome, nat_le}
use Rattle.std.proofs.lemmas.Bool.Decides.{nat_tests}
use Rattle.ps_rows.specs.declared.changes.Transaction.{Transaction}
use Rattle.ps_definitions.specs.RuleSets.{RuleSet}
use Rattle.ps_store.specs.declared.events.Event.{Event}
use Rattle.ps_store.specs.declared.events.Event.TheVariants.{Feed, Close, Write, Commit, Compact, WriteCheckpoint, Deploy, Build, Switch, Abandon}
use Rattle.ps_store.specs.Histories.{has_deploy}
use Rattle.ps_store.specs.Laws.{Rises}
use Rattle.ps_store.specs.Ledgers.{Ledger, head_of, ledger_of}
use Rattle.ps_store.specs.Readings.{committed_of}
use Rattle.ps_store.specs.StepLaws.{transactions_upto}
use Rattle.ps_files.specs.ReadingChanges.{usual}
use Rattle.ps_workers.specs.Work.{NoneIsDue}
use Rattle.ps_serving.specs.Serving.{rules_after}

-- new rules that came came in what follows too
pub deploy_front : (front back : List Event) → has_deploy front ≡ true → has_deploy (front ++ back) ≡ true
deploy_front [] back h = absurd (cc)
deploy_front (Feed t ∷ front) back h = deploy_front front back h
deploy_front (Close ∷ front) back h = deploy_front front back h
deploy_front (Write n ∷ front) back h = deploy_front front back h
deploy_front (Commit ∷ front) back h = deploy_front front back h
deploy_front (Compact bucket ∷ front) back h = deploy_front front back h
deploy_front (WriteCheckpoint user client ∷ front) back h = deploy_front front back h
deploy_front (Deploy rules ∷ front) back h = refl
deploy_front (Build n ∷ front) back h = deploy_front front back h
deploy_front (Switch ∷ front) back h = deploy_front front back h
deploy_front (Abandon ∷ front) back h = deploy_front front back h

abbrev head_from : ℕ → List Transaction → ℕ
head_from last ts = fold (λ p (t : Transaction). t.position.0) last ts

no_less : (last : ℕ) (ts : List Transaction) → Rises last ts → last ≤ head_from last ts
no_less last [] rises = omega arith
no_less last (t ∷ ts) rises = omega (arith, rises.0, no_less t.position.0 ts rises.1)

-- all are at positions up to the last one
upto_head : (p last : ℕ) (ts : List Transaction) → Rises last ts → head_from last ts ≤ p → transactions_upto p ts ≡ ts
upto_head p last [] rises low = refl
upto_head p last (t ∷ ts) rises low =
    let below : t.position.0 ≤ p = omega (arith, low, no_less t.position.0 ts rises.1) in
    let test : nat_le t.position.0 p ≡ true = grind (arith, nat_tests) in
    ap (λ (b : Bool). cond b (t ∷ transactions_upto p ts) (transactions_upto p ts)) test ∙ ap (λ (us : List Transaction). t ∷ us) (upto_head p t.position.0 ts rises.1 low)

-- so all are committed, where the checkpoint is at the head
pub all_committed : (l : Ledger) → Rises 0 l.fed → l.position ≡ head_of l.fed → committed_of l ≡ length l.fed
all_committed l rises at = ap length (upto_head l.position 0 l.fed rises (omega (arith, at)))

-- next rules that were due came
pub came_due : (rules : RuleSet) (next : Option RuleSet) (after : ℕ) (history : List Event) → NoneIsDue (usual rules) (rules_after after next) history → IsSome next
    → after ≤ committed_of (ledger_of rules history) → has_deploy history ≡ true
came_due rules None after history due some enough = absurd (let wrong : false ≡ true = some in cc)
came_due rules (Some next) after history due some enough = elim (due enough) [ inl came ↦ came | inr none ↦ absurd (omega (arith, none)) ]
