-- Printed rows: docs/FORMATS.md, "Printed rows".
use Rattle.std.specs.Prelude.{ℕ, List, [], ◌∷◌, ◌++◌, flat_map}
use Rattle.ps_rows.specs.declared.shown.Shown.{Shown}
use Rattle.ps_data.specs.Documents.{quoted_of}

-- the JSON text of the type, that of the id, and the data, each after a space, and a line feed
abbrev pub row_text : Shown → List ℕ
row_text row = quoted_of row.kind ++ (32 ∷ (quoted_of row.id ++ (32 ∷ (row.content ++ 10 ∷ []))))

abbrev pub rows_text : List Shown → List ℕ
rows_text rows = flat_map row_text rows
