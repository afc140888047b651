use Rattle.std.proofs.Common.{◌≡◌, suc, Option, List, ◌∷◌, ◌++◌, sym, ap, ◌∙◌, subst, length, take, drop, arith}
use Rattle.ps_rows.specs.Source.{Key, Version}
use Rattle.ps_definitions.specs.declared.definitions.Definition.{Definition}
use Rattle.ps_definitions.specs.RuleSets.{RuleSet}
use Rattle.ps_params.specs.Notes.{Note}
use Rattle.ps_store.specs.declared.plans.Made.{Made}
use Rattle.ps_store.specs.Noting.{noted, with_note}
use Rattle.ps_store.specs.Originals.{Timed}
use Rattle.ps_store.specs.Rows.{row_at}
use Rattle.ps_store.specs.Tails.{HasPlaces, AreRowsOf, NotFalling, Ascend, with_row, rows_after, notes_after}
use Rattle.ps_store.proofs.Advancing.{places_along}
use Rattle.ps_store.proofs.tails.take_front.Goals as goal

pub steps-preserved : goal.steps-preserved
steps-preserved c =
    let i = c.steps.invariant in
    let rest : List Made = c.next.new.self.rest.items in
    let left : List Timed = c.pop-waiting.new.queue.items in
    let old : List Timed = c.steps.queue.items in
    let t : Timed = c.pop-waiting.result in
    let made_are : c.steps.one-iterator.rest.items ≡ c.in-Some.one ∷ rest = c.in-Some.ensures.steps.0 in
    let changes_are : old ≡ t ∷ left = c.pop-waiting.ensures in
    let count : length c.steps.one-iterator.rest.items ≡ suc (length rest) = ap length made_are in
    let front : take (length c.steps.one-iterator.rest.items) old ≡ t ∷ take (length rest) left =
    ap (λ n. take n old) count ∙ ap (λ (ts : List Timed). take (suc (length rest)) ts) changes_are in
    let places : HasPlaces c.steps.rows (t ∷ take (length rest) left) = subst (HasPlaces c.steps.rows) front i.places in
    let definitions : List Definition = c.steps.index.rules.definitions in
    let rows_are : AreRowsOf definitions (c.in-Some.one ∷ rest) (t ∷ left) =
    subst (λ (ts : List Timed). AreRowsOf definitions (c.in-Some.one ∷ rest) ts) changes_are (subst (λ (ms : List Made). AreRowsOf definitions ms old) made_are i.rows_are) in
    let rise : NotFalling c.steps.index.last (t ∷ left) = subst (NotFalling c.steps.index.last) changes_are i.rise in
    let rows : row_at c.advance_one.new.rows ≡ with_row (row_at c.steps.rows) t = λ j q. c.advance_one.ensures.rows q j in
    record {
      count = omega (arith, i.count, count, ap length changes_are);
      places = places_along (take (length rest) left) c.steps.rows c.advance_one.new.rows (λ q. c.advance_one.ensures.places q) places.1;
      rows_are = subst (λ (r : RuleSet). AreRowsOf r.definitions rest left) (sym c.advance_one.ensures.index_rules) rows_are.1;
      room = omega (arith, i.room, count, c.advance_one.ensures.index_room);
      rise = subst (λ n. NotFalling n left) (sym c.advance_one.ensures.index_last) rise.1;
      changes = ap (λ (ts : List Timed). drop (suc (length rest)) ts) (sym changes_are) ∙ ap (λ n. drop n old) (sym count) ∙ i.changes;
      rows = λ key.
          ap (λ (f : Key → Option Version). rows_after f (take (length rest) left) key) rows
          ∙ ap (λ (ts : List Timed). rows_after (row_at c.steps.rows) ts key) (sym front)
          ∙ i.rows key;
      index_rules = c.advance_one.ensures.index_rules ∙ i.index_rules;
      index_forgotten = c.advance_one.ensures.index_forgotten ∙ i.index_forgotten;
      index_notes =
          ap (λ (ns : List Note). notes_after c.args.index.now.rules.definitions ns (take (length rest) left)) (c.advance_one.ensures.index_notes ∙ ap (λ (r : RuleSet). with_note r.definitions c.steps.index.notes (noted t)) i.index_rules)
          ∙ ap (λ (ts : List Timed). notes_after c.args.index.now.rules.definitions c.steps.index.notes ts) (sym front)
          ∙ i.index_notes;
      index_ascend = λ more head h.
          let all : Ascend c.steps.index.last (t ∷ (left ++ more)) head = subst (λ (ts : List Timed). Ascend c.steps.index.last (ts ++ more) head) changes_are (i.index_ascend more head h) in
          subst (λ n. Ascend n (left ++ more) head) (sym c.advance_one.ensures.index_last) all.1;
    }
