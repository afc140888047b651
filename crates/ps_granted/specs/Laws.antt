-- The law of rows of copies, for the crates above.
use Rattle.std.specs.Prelude.{◌≡◌, List}
use Rattle.ps_rows.specs.declared.shown.Shown.{Shown}
use Rattle.ps_granted.specs.declared.copies.Granted.{Granted}
use Rattle.ps_granted.specs.Latest.{rows_of, AreLatest, TiesAgree}

-- where copies that tie agree, the rows that show the latest ones are those of `rows_of`, and no others
abbrev pub LatestRowsAreUnique : Type 0
LatestRowsAreUnique = (copies : List Granted) (rows : List Shown) → TiesAgree copies → AreLatest copies rows → rows ≡ rows_of copies
