use Rattle.std.proofs.Common.{◌≡◌, ℕ, List, ◌∷◌, Some, rules, ◌∙◌}
use Rattle.std.specs.BTreeMap.{is_at}
use Rattle.std.specs.Cmp.Lexicographic.{slice_cmp}
use Rattle.std.specs.Map.{lookup}
use Rattle.std.specs.Map.Iter.{deref_pair}
use Rattle.std.specs.Ordering.{nat_cmp}
use Rattle.std.proofs.lemmas.Map.Views.{All-turn}
use Rattle.ps_lines.specs.declared.lines.Entry.{Entry}
use Rattle.ps_client_log.specs.Logs.{kept}
use Rattle.ps_client.specs.Tables.{told}
use Rattle.ps_client.proofs.ToldEntries.{told_found, listed_more, listed_same}
use Rattle.ps_client.proofs.telling.Told.differing.Goals as goal

pub entries-preserved-in-Continue-branch-2 : goal.entries-preserved-in-Continue-branch-2
entries-preserved-in-Continue-branch-2 g c =
    let entries = c.self.inside.map.entries in
    let pair : List ℕ × Entry = (c.in-Some.name.now, c.in-Some.entry.now) in
    let found : told c.args.self.now c.in-Some.name.now ≡ Some c.in-Some.entry.now =
    told_found entries c.args.self.now c.in-Some.name.now c.in-Some.entry.now c.self.view_is
    (All-turn deref_pair (λ (e : List ℕ × Entry). lookup (is_at (slice_cmp nat_cmp e.0)) entries ≡ Some e.1) _ _ _ _ _ _ _ c.iter-name-items.ensures.found
    (c.into_iter-name-iterator.ensures.into_iter_gives ∙ c.iter-name-items.ensures.rest) c.entries.yielded_by c.in-Some.is c.next.ensures.steps) in
    let next : c.entries.name-iterator ≡ pair ∷ c.next.new.self = search rules in
    listed_more (kept c.args.log.now) c.args.self.now c.entries.buckets c.push.new.self pair c.entries.name-iterator c.next.new.self c.in_ok-bucket.bucket c.total-own.result
    found c.total-own.ensures c.if-own-entry.true c.in_ok-bucket.ensures c.in_ok-push.ensures.ok next c.entries.invariant

pub entries-preserved : goal.entries-preserved
entries-preserved g c =
    let entries = c.self.inside.map.entries in
    let pair : List ℕ × Entry = (c.in-Some.name.now, c.in-Some.entry.now) in
    let found : told c.args.self.now c.in-Some.name.now ≡ Some c.in-Some.entry.now =
    told_found entries c.args.self.now c.in-Some.name.now c.in-Some.entry.now c.self.view_is
    (All-turn deref_pair (λ (e : List ℕ × Entry). lookup (is_at (slice_cmp nat_cmp e.0)) entries ≡ Some e.1) _ _ _ _ _ _ _ c.iter-name-items.ensures.found
    (c.into_iter-name-iterator.ensures.into_iter_gives ∙ c.iter-name-items.ensures.rest) c.entries.yielded_by c.in-Some.is c.next.ensures.steps) in
    let next : c.entries.name-iterator ≡ pair ∷ c.next.new.self = search rules in
    listed_same (kept c.args.log.now) c.args.self.now c.entries.buckets pair c.entries.name-iterator c.next.new.self c.total-own.result.0
    found c.total-own.ensures c.if-own-entry.false next c.entries.invariant
