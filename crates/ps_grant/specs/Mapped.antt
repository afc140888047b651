-- A map's entries as a source.
use Rattle.std.specs.Prelude.{map}
use Rattle.std.specs.BTreeMap.{BTreeMap}
use Rattle.ps_rows.specs.Source.{Key, Version, Source}
use Rattle.ps_grant.specs.declared.sourcing.Version.{Version as Held}

abbrev pub version_of : Held → Version
version_of held = record { columns = held.row; position = held.position.0; index = held.index }

-- the entries of a map of rows, in order
abbrev pub kept_rows : BTreeMap Key Held → Source
kept_rows live = map (λ e. (e.0, version_of e.1)) live.entries
