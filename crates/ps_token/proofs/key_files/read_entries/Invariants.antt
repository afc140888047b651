use Rattle.std.proofs.Common.{drop}
use Rattle.serde_json.specs.View.{items_view}
use Rattle.ps_token.proofs.Entries.{Reading}
use Rattle.ps_token.proofs.key_files.read_entries.Given as goal

-- the keys so far, and those of the entries that are left, are those of all
abbrev pub invariant-entries : goal.invariant-entries
invariant-entries l = Reading (items_view l.entries) (items_view (drop l.entry-index l.entries)) l.keys
