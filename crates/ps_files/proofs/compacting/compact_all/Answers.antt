use Rattle.std.proofs.Common.{rules, ◌≡◌, ◌++◌, [], ◌∙◌, sym, subst, List, ℕ}
use Rattle.std.proofs.lemmas.List.{nil_from_length}
use Rattle.ps_files.specs.declared.compacting.Compacted.{Compacted}
use Rattle.ps_files.proofs.CompactedLogs.{compacting, IsCompacting, compacting_starts, compacting_more, compacting_ends, has_op}
use Rattle.ps_files.proofs.compacting.compact_all.Goals as goal

pub names-init : goal.names-init
names-init c = λ fixed history stands.
    let start : c.into_iter-bucket-iterator.result.rest.items ≡ c.in_ok-names.names = search rules in
    subst (λ (reports : List Compacted). IsCompacting fixed history reports c.into_iter-bucket-iterator.result.rest.items c.args.store.now) (sym c.new-reports.ensures)
    (compacting_starts fixed history c.into_iter-bucket-iterator.result.rest.items c.args.store.now (start ∙ c.in_ok-names.ensures fixed history stands) stands)

pub compact_one-requires : goal.compact_one-requires
compact_one-requires c =
    let k = c.requires in
    let so_far = c.names.invariant k.0 k.1 k.2 in
    (k.0, k.1 ++ compacting so_far.done, so_far.stands, has_op k.0 k.1 c.totals_tell_histories.ensures.names c.names.reports c.names.bucket-iterator.rest.items c.in-Some.bucket c.next.new.self.rest.items c.names.store so_far c.in-Some.ensures.steps.0)

pub names-preserved : goal.names-preserved
names-preserved c = λ fixed history stands.
    let so_far = c.names.invariant fixed history stands in
    let one = c.in_ok-report.ensures fixed (history ++ compacting so_far.done) so_far.stands in
    compacting_more fixed history c.totals_tell_histories.ensures.names c.names.reports c.names.bucket-iterator.rest.items c.in-Some.bucket c.next.new.self.rest.items c.names.store so_far c.in-Some.ensures.steps.0
    c.in_ok-report.report c.push.new.self c.compact_one.new.store one.0 one.1 c.in_ok-push.ensures.ok

pub returns : goal.returns
returns c = λ fixed history stands.
    let left : List (List ℕ) = c.names.bucket-iterator.rest.items in
    let none : left ≡ [] = nil_from_length left (sym c.names.bucket-iterator.rest.ok.0 ∙ c.in-None.ensures.steps.0) in
    compacting_ends fixed history c.names.reports c.names.store
    (subst (λ (names : List (List ℕ)). IsCompacting fixed history c.names.reports names c.names.store) none (c.names.invariant fixed history stands))
