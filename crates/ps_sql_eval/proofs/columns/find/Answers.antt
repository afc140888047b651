use Rattle.std.proofs.Common.{rules, sym}
use Rattle.std.specs.Ordering.{nat_cmp}
use Rattle.std.specs.Cmp.Lexicographic.{slice_cmp}
use Rattle.ps_data.specs.declared.columns.Column.{Column}
use Rattle.ps_sql_eval.proofs.Searches.{found, missing, answers_same}
use Rattle.ps_sql_eval.proofs.columns.find.Goals as goal

pub returns-in-Ok : goal.returns-in-Ok
returns-in-Ok c =
    let name = c.args.name.now in
    let facts = c.in-Ok.ensures in
    let by_name = facts.position (λ (column : Column). slice_cmp nat_cmp column.name name) (answers_same _ _ _ (λ a r f called. search rules)) in
    sym (found c.args.columns.now name c.in-Ok.at c.index-columns-at.result c.requires facts.bound by_name)

pub returns-in-Err : goal.returns-in-Err
returns-in-Err c =
    let name = c.args.name.now in
    let facts = c.in-Err.ensures in
    let by_name = facts.position (λ (column : Column). slice_cmp nat_cmp column.name name) (answers_same _ _ _ (λ a r f called. search rules)) in
    sym (missing c.args.columns.now name c.in-Err.field-0 c.requires by_name)
