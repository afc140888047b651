use Rattle.std.proofs.Common.{◌≡◌, ◌++◌, flat_map, drop}
use Rattle.std.specs.List.{AllByRecursion}
use Rattle.ps_definitions.specs.RuleSets.{IsSoundQuery}
use Rattle.ps_granted.specs.Grants.{granted_by_query}
use Rattle.ps_grant.specs.Mapped.{kept_rows}
use Rattle.ps_grant.proofs.granting.grant_queries.Given as goal

-- the copies so far, and then those of the queries that are left
abbrev pub invariant-queries : goal.invariant-queries
invariant-queries l = record {
  copies : l.copies ++ flat_map (granted_by_query l.asker l.names l.vectors (kept_rows l.rows)) (drop l.planned-index l.queries) ≡ l.initial.copies ++ flat_map (granted_by_query l.asker l.names l.vectors (kept_rows l.rows)) l.queries;
  sound : AllByRecursion (IsSoundQuery l.names) (drop l.planned-index l.queries);
}
