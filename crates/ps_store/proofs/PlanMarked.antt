-- A plan that has got the mark of its generation is that of the generation's changes.
use Rattle.std.proofs.Common.{◌≡◌, ℕ, ◌≤◌, List, [], ◌∷◌, refl, sym, ap, ◌∙◌, length, map, fold, inl, arith}
use Rattle.std.specs.FinMap.Entries.{find}
use Rattle.ps_data.specs.declared.ids.OpId.{OpId}
use Rattle.ps_rows.specs.Source.{Key, key_cmp}
use Rattle.ps_definitions.specs.declared.definitions.Definition.{Definition}
use Rattle.ps_definitions.specs.RuleSets.{RuleSet}
use Rattle.ps_store.specs.declared.plans.Made.{Made}
use Rattle.ps_store.specs.declared.plans.Plan.{Plan}
use Rattle.ps_store.specs.declared.rows.Rows.{Rows}
use Rattle.ps_store.specs.Generations.{mark_of}
use Rattle.ps_store.specs.Ledgers.{Ledger, write_next}
use Rattle.ps_store.specs.Originals.{Timed, columns_of}
use Rattle.ps_store.specs.Plans.{IsStart, PlanStands}
use Rattle.ps_store.specs.Rows.{row_at}
use Rattle.ps_store.specs.Runs.{ops_from, lasts_from}
use Rattle.ps_store.specs.Steps.{marked}
use Rattle.ps_store.specs.StoreGenerations.{rows_made, IsMarked}
use Rattle.ps_store.specs.Tails.{ids, AreRowsOf}
use Rattle.ps_store.proofs.Plainly.{IsPlain, plain_next, plain_from, plain_lasts}

-- a ledger as a plan has it: its generation has no mark, and each id so far is of a Write
abbrev pub plain_base : Ledger → Ledger
plain_base l = record l { force = record l.force { number = 1 }; wrote = l.last }

pub is_plain : (l : Ledger) → IsPlain l (plain_base l)
is_plain l = record { force = refl; last = refl }

-- a plan begins so
pub plain_start : (rules : RuleSet) (rows : Rows) (last : ℕ) (l : Ledger) → l.force.rules ≡ rules → last ≡ l.last
    → ((key : Key) → columns_of (row_at rows key) ≡ columns_of (find key_cmp key l.force.source))
    → IsStart rules rows last (plain_base l)
plain_start rules rows last l rules_are last_is stand = record {
  rules_are = rules_are;
  stand = stand;
  last = last_is;
  number = refl;
  wrote = refl;
}

-- and has in the end what is written
pub record IsWritten (rules : RuleSet) (plan : Plan) (l : Ledger) (ts : List Timed) : Type 0 where
  pub entered : plan.entered.items ≡ ops_from l ts
  pub lasts : ids plan.made.items ≡ lasts_from l ts
  pub rows_are : AreRowsOf rules.definitions plan.made.items ts
  pub newest : plan.last.0 ≡ (fold write_next l ts).last

pub plain_fold : (ts : List Timed) (k b : Ledger) → IsPlain k b → IsPlain (fold write_next k ts) (fold write_next b ts)
plain_fold [] k b h = h
plain_fold (t ∷ ts) k b h = plain_fold ts (write_next k t) (write_next b t) (plain_next k b t h)

pub rows_same : (definitions : List Definition) (old new : List Made) (ts : List Timed) → rows_made new ≡ rows_made old → AreRowsOf definitions old ts → AreRowsOf definitions new ts
rows_same definitions [] [] ts same h = tt
rows_same definitions [] (n ∷ new) ts same h = absurd (omega (arith, ap length same))
rows_same definitions (o ∷ old) [] ts same h = absurd (omega (arith, ap length same))
rows_same definitions (o ∷ old) (n ∷ new) [] same h = absurd h
rows_same definitions (o ∷ old) (n ∷ new) (t ∷ ts) same h =
    let first : n.row ≡ o.row = cc in
    let rest : rows_made new ≡ rows_made old = cc in
    (first ∙ h.0, rows_same definitions old new ts rest h.1)

pub is_written : (rules : RuleSet) (rows : Rows) (changes : List Timed) (old new : Plan) (l : Ledger) (ts : List Timed) → l.wrote ≤ l.last → PlanStands rules rows changes old (plain_base l) ts
    → IsMarked (mark_of l.force.number) l.last l.wrote old new → IsWritten rules new l ts
is_written rules rows changes old new l ts low h m = record {
  entered = m.entered ∙ ap (marked (mark_of l.force.number)) h.entered ∙ sym (plain_from ts l (plain_base l) (is_plain l));
  lasts = m.lasts ∙ ap (map _) h.lasts ∙ sym (plain_lasts l.last l.wrote low ts l (plain_base l) (is_plain l) refl (inl (refl, refl)));
  rows_are = rows_same rules.definitions old.made.items new.made.items ts m.rows h.rows_are;
  newest = ap (λ (id : OpId). id.0) m.last ∙ h.last ∙ (plain_fold ts l (plain_base l) (is_plain l)).last;
}
