use Rattle.std.proofs.Common.{Result, Err, List, subst}
use Rattle.ps_queries.specs.declared.queries.ParameterQuery.{ParameterQuery}
use Rattle.ps_rules.specs.declared.faults.RulesFault.{RulesFault}
use Rattle.ps_rules.specs.Checks.{known_by, known_with}
use Rattle.ps_rules.specs.Faults.{Reads}
use Rattle.ps_rules.proofs.checks.with_parameter_query.Goals as goal

pub returns-in-Err : goal.returns-in-Err
returns-in-Err c =
    let warnings = c.args.known.warnings in
    let told = subst (λ (r : Result ParameterQuery RulesFault). Reads (known_by c.as_slice.result.now warnings c.args.written.now r) (known_with (record { queries = c.as_slice.result.now; warnings = warnings }) c.args.written.now))
    c.in-Err.is (c.fitting_query.ensures warnings) in
    subst (λ (queries : List ParameterQuery). Reads (Err c.in-Err.fault) (known_with (record { queries = queries; warnings = warnings }) c.args.written.now)) c.as_slice.ensures told
