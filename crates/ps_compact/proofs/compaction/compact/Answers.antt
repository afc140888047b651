use Rattle.std.proofs.Common.{◌≡◌, ◌≤◌, ◌++◌, ◌∙◌, List, take, drop, length, sym, ap, subst, arith, rules}
use Rattle.std.specs.Vec.{vec_len}
use Rattle.ps_bucket_log.specs.declared.ops.Op.{Op}
use Rattle.ps_bucket_log.specs.Ops.{upto}
use Rattle.ps_bucket_log.specs.Logs.{IsLog}
use Rattle.ps_compact.specs.Compaction.{moved, with_clear}
use Rattle.ps_compact.proofs.Kept.{compacted_is_log}
use Rattle.ps_compact.proofs.Counts.{upto-within, compacted_parts, report_parts}
use Rattle.ps_compact.proofs.compaction.compact.Goals as goal

pub split_off-requires : goal.split_off-requires
split_off-requires g c =
    let log : List Op = g.G.Log.ops c.args.log.now in
    let items : c.into_vec-front.result.items ≡ log = search rules in
    let count : c.count_upto-count.result ≡ length (upto c.args.level.0 log) = search rules in
    let within : length (upto c.args.level.0 log) ≤ length log = upto-within c.args.level.0 log in
    let all : length c.into_vec-front.result.items ≡ length log = ap length items in
    let len : vec_len c.into_vec-front.result ≡ length c.into_vec-front.result.items = search rules in
    omega (arith, within, count, len, all)

pub rebuild-requires : goal.rebuild-requires
rebuild-requires g c =
    let log : List Op = g.G.Log.ops c.args.log.now in
    let items : c.into_vec-front.result.items ≡ log = search rules in
    let is_log : IsLog log = search rules in
    let count : c.count_upto-count.result ≡ length (upto c.args.level.0 log) = search rules in
    let made : c.from_vec.result ≡ with_clear (moved (take c.count_upto-count.result c.into_vec-front.result.items)) ++ drop c.count_upto-count.result c.into_vec-front.result.items = search rules in
    subst IsLog (sym (made ∙ compacted_parts c.args.level.0 c.count_upto-count.result c.into_vec-front.result.items log items is_log.rising count))
    (compacted_is_log log c.args.level.0 is_log)

pub returns-clause-log : goal.returns-clause-log
returns-clause-log g c =
    let log : List Op = g.G.Log.ops c.args.log.now in
    let items : c.into_vec-front.result.items ≡ log = search rules in
    let is_log : IsLog log = search rules in
    let count : c.count_upto-count.result ≡ length (upto c.args.level.0 log) = search rules in
    let made : c.from_vec.result ≡ with_clear (moved (take c.count_upto-count.result c.into_vec-front.result.items)) ++ drop c.count_upto-count.result c.into_vec-front.result.items = search rules in
    let rebuilt : g.G.Log.ops c.rebuild.new.self ≡ c.from_vec.result = search rules in
    rebuilt ∙ made ∙ compacted_parts c.args.level.0 c.count_upto-count.result c.into_vec-front.result.items log items is_log.rising count

pub returns-clause-report : goal.returns-clause-report
returns-clause-report g c =
    let log : List Op = g.G.Log.ops c.args.log.now in
    let items : c.into_vec-front.result.items ≡ log = search rules in
    let is_log : IsLog log = search rules in
    let count : c.count_upto-count.result ≡ length (upto c.args.level.0 log) = search rules in
    report_parts c.args.level.0 c.count_upto-count.result c.into_vec-front.result.items log
    c.in_ok-ops-2.field-0.moved c.in_ok-ops-2.field-0.cleared c.len-before.result c.len.result items is_log.rising count
    (search rules) (search rules) (search rules) (search rules)
