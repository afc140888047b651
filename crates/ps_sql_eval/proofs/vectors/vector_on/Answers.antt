use Rattle.std.proofs.Common.{◌≡◌, List, [], ◌∷◌, false, not, cond, sym, ap, ◌∙◌, map}
use Rattle.std.specs.List.{list_any}
use Rattle.ps_data.specs.declared.values.Value.{Value}
use Rattle.ps_data.specs.Values.{is_null}
use Rattle.ps_queries.specs.declared.queries.Output.{Output}
use Rattle.ps_queries.specs.Vectors.{output_value, vector_values, at_row}
use Rattle.ps_sql_eval.specs.Evaluated.{without_bucket}
use Rattle.ps_sql_eval.proofs.OnRows.{some_where_held}
use Rattle.ps_sql_eval.proofs.vectors.vector_on.Goals as goal

pub returns : goal.returns
returns c =
    let values : List Value = c.in_ok-values.values in
    let are : values ≡ vector_values c.args.names.now c.args.asker.now c.args.query.now (at_row c.args.id.now c.args.row.now) =
    c.in_ok-values.ensures ∙ ap (λ (os : List Output). map (output_value (without_bucket c.args.asker.now c.args.id.now c.args.row.now) os) c.args.names.now) c.as_slice.ensures in
    let none : list_any is_null values ≡ false = ap (list_any is_null) (sym c.as_slice-2.ensures) ∙ sym c.has_null.ensures ∙ c.if-has_null.false in
    sym (some_where_held c.args.names.now c.args.asker.now c.args.query.now (at_row c.args.id.now c.args.row.now) values (sym c.in_ok-lets_through.ensures ∙ c.if-not-branch.false) are
    ∙ ap (λ b. cond (not b) (values ∷ []) []) none)
