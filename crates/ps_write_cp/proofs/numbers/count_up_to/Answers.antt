use Rattle.std.proofs.Common.{rules, ◌≡◌, ◌≤◌, leb, arith}
use Rattle.std.proofs.lemmas.List.Sorted.{IsPartitionPoint-from_clause, IsPartitionedBy-leb}
use Rattle.ps_data.specs.declared.ids.Position.{Position}
use Rattle.ps_write_cp.proofs.Covering.{none_covered, count_covered}
use Rattle.ps_write_cp.proofs.numbers.count_up_to.Goals as goal

pub returns-then-count-eq0 : goal.returns-then-count-eq0
returns-then-count-eq0 c =
    let parted = IsPartitionedBy-leb (λ (head : Position). head.0) _ c.args.position.0 c.requires in
    let point = IsPartitionPoint-from_clause (λ (head : Position). leb head.0 c.args.position.0) _ _ c.partition_point-count.ensures.partitioned parted (λ a r q k. search rules) in
    let zero : c.partition_point-count.result ≡ 0 = search (rules, c.if-count-eq0.true) in
    none_covered c.args.position.0 c.args.heads.now (λ j d l m. let low : c.partition_point-count.result ≤ j = omega (arith, zero) in point.1 j d low m)

pub returns : goal.returns
returns c =
    let parted = IsPartitionedBy-leb (λ (head : Position). head.0) _ c.args.position.0 c.requires in
    let point = IsPartitionPoint-from_clause (λ (head : Position). leb head.0 c.args.position.0) _ _ c.partition_point-count.ensures.partitioned parted (λ a r q k. search rules) in
    count_covered c.args.position.0 c.args.heads.now c.partition_point-count.result (search (rules, c.if-count-eq0.false)) c.partition_point-count.ensures.bound point.0 point.1
