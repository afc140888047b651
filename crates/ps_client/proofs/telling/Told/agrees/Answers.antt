use Rattle.std.proofs.Common.{◌≡◌, ℕ, List, ◌∷◌, Some, rules, ◌∙◌}
use Rattle.std.specs.BTreeMap.{is_at}
use Rattle.std.specs.Cmp.Lexicographic.{slice_cmp}
use Rattle.std.specs.Map.{lookup}
use Rattle.std.specs.Map.Iter.{deref_pair}
use Rattle.std.specs.Ordering.{nat_cmp}
use Rattle.std.proofs.lemmas.Map.Views.{All-turn}
use Rattle.ps_lines.specs.declared.lines.Entry.{Entry}
use Rattle.ps_client_log.specs.Logs.{kept}
use Rattle.ps_client.specs.Tables.{told}
use Rattle.ps_client.proofs.ToldEntries.{told_found, agrees_more, agrees_not}
use Rattle.ps_client.proofs.telling.Told.agrees.Goals as goal

pub returns-then-total-entry : goal.returns-then-total-entry
returns-then-total-entry g c =
    let entries = c.self.inside.map.entries in
    let pair : List ℕ × Entry = (c.in-Some.name.now, c.in-Some.entry.now) in
    let found : told c.args.self.now c.in-Some.name.now ≡ Some c.in-Some.entry.now =
    told_found entries c.args.self.now c.in-Some.name.now c.in-Some.entry.now c.self.view_is
    (All-turn deref_pair (λ (e : List ℕ × Entry). lookup (is_at (slice_cmp nat_cmp e.0)) entries ≡ Some e.1) _ _ _ _ _ _ _ c.iter-name-items.ensures.found
    (c.into_iter-name-iterator.ensures.into_iter_gives ∙ c.iter-name-items.ensures.rest) c.entries.yielded_by c.in-Some.is c.next.ensures.steps) in
    let next : c.entries.name-iterator ≡ pair ∷ c.next.new.self = search rules in
    agrees_not (kept c.args.log.now) c.args.self.now pair c.entries.name-iterator c.next.new.self c.total.result.0 found c.total.ensures c.if-total-entry.true next c.entries.invariant

pub entries-preserved : goal.entries-preserved
entries-preserved g c =
    let entries = c.self.inside.map.entries in
    let pair : List ℕ × Entry = (c.in-Some.name.now, c.in-Some.entry.now) in
    let found : told c.args.self.now c.in-Some.name.now ≡ Some c.in-Some.entry.now =
    told_found entries c.args.self.now c.in-Some.name.now c.in-Some.entry.now c.self.view_is
    (All-turn deref_pair (λ (e : List ℕ × Entry). lookup (is_at (slice_cmp nat_cmp e.0)) entries ≡ Some e.1) _ _ _ _ _ _ _ c.iter-name-items.ensures.found
    (c.into_iter-name-iterator.ensures.into_iter_gives ∙ c.iter-name-items.ensures.rest) c.entries.yielded_by c.in-Some.is c.next.ensures.steps) in
    let next : c.entries.name-iterator ≡ pair ∷ c.next.new.self = search rules in
    agrees_more (kept c.args.log.now) c.args.self.now pair c.entries.name-iterator c.next.new.self c.total.result.0 found c.total.ensures c.if-total-entry.false next c.entries.invariant
