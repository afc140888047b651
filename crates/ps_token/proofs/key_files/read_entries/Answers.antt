use Rattle.std.proofs.Common.{◌≡◌, ◌<◌, suc, length, drop, sym, ap, ◌∙◌, arith}
use Rattle.std.proofs.Math.Seq.{drop-cons}
use Rattle.serde_json.specs.Data.{item}
use Rattle.serde_json.specs.View.{view, items_view}
use Rattle.serde_json.specs.declared.value.Value.{Value}
use Rattle.ps_token.proofs.Entries.{reading_stops}
use Rattle.ps_token.proofs.key_files.read_entries.Goals as goal

pub returns-in-Err : goal.returns-in-Err
returns-in-Err c =
    let entries = c.args.entries.now in
    let i = c.entries.entry-index in
    let entry = c.entry-item.result in
    let within : i < length entries = omega arith in
    let left : items_view (drop i entries) ≡ item (view entry) (items_view (drop (suc i) entries)) =
    ap items_view (drop-cons entries i entry within) ∙ ap (λ (x : Value). item (view x) (items_view (drop (suc i) entries))) (sym c.entry-item.is) in
    reading_stops (items_view entries) (items_view (drop i entries)) (items_view (drop (suc i) entries)) (view entry) c.entries.keys c.in-Err.fault left c.entries.invariant c.in-Err.ensures
