-- A buffer whose front is filled.
use Rattle.std.proofs.Common.{◌≡◌, ℕ, ◌+◌, ◌-◌, ◌≤◌, List, ◌++◌, length, take, sym, ap, ◌∙◌}
use Rattle.std.proofs.lemmas.List.{take-append-le, length-take-le}
use Rattle.std.proofs.Math.Seq.{take-append-add}
use borrow.Rule.Slice.PartMut.{put_mid, post_of}

-- the front, and the first of what was read behind it
pub take-filled : (into part : List ℕ) (filled count : ℕ) → filled ≤ length into → count ≤ length part
    → take (filled + count) (put_mid filled (length into - filled) into part) ≡ take filled into ++ take count part
take-filled into part filled count within fits =
    let rest = post_of filled (length into - filled) into in
    ap (λ n. take (n + count) (take filled into ++ (part ++ rest))) (sym (length-take-le filled into within))
    ∙ take-append-add (take filled into) (part ++ rest) count
    ∙ ap (λ x. take filled into ++ x) (take-append-le count part rest fits)
