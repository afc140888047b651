-- A number is aimed at, a bucket goes and rows are shown, all in one.
use Rattle.std.proofs.Common.{◌≡◌, ℕ, ◌≤◌, List, [], ◌∷◌, ◌++◌}
use Rattle.std.specs.List.{IsDistinct}
use Rattle.ps_rows.specs.declared.shown.Shown.{Shown}
use Rattle.ps_client_log.specs.declared.states.Target.TheVariants.{Number}
use Rattle.ps_client_log.specs.declared.edits.Edit.TheVariants.{Delete, Aim, Show}
use Rattle.ps_client_log.specs.Kept.{Kept}
use Rattle.ps_client_log.specs.Soundness.{greatest, same_row, IsSound}
use Rattle.ps_client_log.specs.Edits.{CanMakeAll, with_edit}
use Rattle.ps_client_log.specs.Laws.{EditKeepsSound}

-- one row is not shown twice
pub one_row : (row : Shown) (rows : List Shown) → rows ≡ row ∷ [] → IsDistinct same_row rows
unfolding IsDistinct
one_row row rows is = rw is (tt, tt)

pub together : EditKeepsSound → (number : ℕ) (bucket : List ℕ) (rows : List Shown) (kept : Kept) → number ≤ greatest → IsDistinct same_row rows → IsSound kept
    → CanMakeAll kept (Aim (Number number) ∷ Delete bucket ∷ Show rows ∷ [])
together law number bucket rows kept within apart sound =
    let aimed : Kept = with_edit kept (Aim (Number number)) in
    let on : IsSound aimed = record { buckets = sound.buckets; queue = sound.queue; target = within } in
    let left : IsSound (with_edit aimed (Delete bucket)) = law aimed (Delete bucket) on tt in
    (within, on, (tt, left, (apart, record { buckets = left.buckets; queue = left.queue; target = left.target }, tt)))
