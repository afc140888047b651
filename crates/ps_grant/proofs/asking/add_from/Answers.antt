use Rattle.std.proofs.Common.{◌≡◌, List, Bool, ◌∷◌, sym, ◌∙◌, filter, flat_map, rules}
use Rattle.std.specs.Prelude.{bytes_eq}
use Rattle.ps_data.specs.declared.values.Value.{Value}
use Rattle.ps_rows.specs.Source.{Key}
use Rattle.ps_queries.specs.Vectors.{SourceRow, vector_on}
use Rattle.ps_granted.specs.Sources.{row_of, rows_in}
use Rattle.ps_grant.specs.declared.sourcing.Version.{Version}
use Rattle.ps_grant.specs.Mapped.{version_of}
use Rattle.ps_grant.proofs.AskLaws.{row_taken}
use Rattle.ps_grant.proofs.GainLaws.{gain_step}
use Rattle.ps_grant.proofs.KeptLaws.{held}
use Rattle.ps_grant.proofs.asking.add_from.Goals as goal

pub rows-preserved : goal.rows-preserved
rows-preserved c =
    let f : SourceRow → List (List Value) = vector_on c.args.names.now c.args.asker.now c.args.query.now in
    let key : Key = c.in-Some.key.now in
    let version : Version = c.in-Some.version.now in
    let rest : List (Key × Version) = c.next.new.self in
    let is : c.rows.key-iterator ≡ (key, version) ∷ rest = search rules in
    let left : List (List Value) = flat_map f (filter (λ (r : SourceRow). bytes_eq r.table c.args.table.now) (rows_in (held rest))) in
    let whole : List (List Value) = flat_map f (filter (λ (r : SourceRow). bytes_eq r.table c.args.table.now) (rows_in (held c.rows.key-iterator))) in
    λ (test : List Value → Bool).
    gain_step c.rows.vectors c.add_on.new.vectors (f (row_of (key, version_of version))) whole left c.in_ok-add_on.ensures
    (row_taken f c.args.table.now c.rows.key-iterator key version rest is (sym c.equals.ensures.value ∙ c.if-not-equals.false)) test
    ∙ c.rows.invariant test
