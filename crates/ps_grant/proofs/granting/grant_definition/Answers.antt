use Rattle.std.proofs.Common.{◌≡◌, ℕ, List, ◌++◌, flat_map, sym, ap, ◌∙◌, subst}
use Rattle.std.specs.Prelude.{OnOk}
use Rattle.std.specs.List.{AllByRecursion}
use Rattle.ps_rows.specs.Source.{Source}
use Rattle.ps_queries.specs.declared.askers.Asker.{Asker}
use Rattle.ps_definitions.specs.declared.queries.Planned.{Planned}
use Rattle.ps_definitions.specs.Names.{has_repeated}
use Rattle.ps_definitions.specs.RuleSets.{IsSoundQuery}
use Rattle.ps_definitions.specs.Vectors.{parameter_vectors}
use Rattle.ps_granted.specs.declared.copies.Granted.{Granted}
use Rattle.ps_granted.specs.Grants.{granted_by_query}
use Rattle.ps_grant.specs.Solving.{AreAsLong}
use Rattle.ps_granted.specs.Sources.{rows_in}
use Rattle.ps_grant.specs.Mapped.{kept_rows}
use Rattle.ps_grant.proofs.GrantLaws.{differing, long, queries_same}
use Rattle.ps_grant.proofs.granting.grant_definition.Goals as goal

pub grant_queries-requires-clause-long : goal.grant_queries-requires-clause-long
grant_queries-requires-clause-long c =
    subst (λ (names : List (List ℕ)). AreAsLong names c.in_ok-vectors.vectors) (sym c.as_slice-2.ensures)
    (long c.args.definition.now c.args.asker.now (rows_in (kept_rows c.args.rows.now)) c.in_ok-vectors.vectors c.requires c.in_ok-vectors.ensures)

pub grant_queries-requires-clause-differ : goal.grant_queries-requires-clause-differ
grant_queries-requires-clause-differ c = ap has_repeated c.as_slice-2.ensures ∙ differing c.args.definition.now c.requires

pub grant_queries-requires-clause-sound : goal.grant_queries-requires-clause-sound
grant_queries-requires-clause-sound c =
    subst (λ (names : List (List ℕ)). AllByRecursion (IsSoundQuery names) c.as_slice.result.now) (sym c.as_slice-2.ensures)
    (subst (λ (qs : List Planned). AllByRecursion (IsSoundQuery c.args.definition.now.names) qs) (sym c.as_slice.ensures) c.requires.queries)

pub returns : goal.returns
returns c =
    let asker : Asker = c.args.asker.now in
    let source : Source = kept_rows c.args.rows.now in
    subst (λ (more : List Granted). OnOk c.grant_queries.result (c.grant_queries.new.copies ≡ c.args.copies.now ++ more))
    (ap (λ (qs : List Planned). flat_map (granted_by_query asker c.as_slice-2.result.now c.in_ok-vectors.vectors source) qs) c.as_slice.ensures
    ∙ ap (λ (names : List (List ℕ)). flat_map (granted_by_query asker names c.in_ok-vectors.vectors source) c.args.definition.now.queries) c.as_slice-2.ensures
    ∙ queries_same asker c.args.definition.now.names c.in_ok-vectors.vectors (parameter_vectors c.args.definition.now asker (rows_in source)) c.in_ok-vectors.ensures source c.args.definition.now.queries)
    c.grant_queries.ensures
