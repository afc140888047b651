use Rattle.std.proofs.Common.{◌≡◌, ◌<◌, ◌+◌, ◌++◌, ℕ, List, length}
use Rattle.std.specs.List.{All}
use Rattle.ps_journal.specs.Records.{IsRecord, AreRecords}
use Rattle.ps_journal.specs.Layout.{front}
use Rattle.ps_journal.proofs.readers.read_records.Given as goal

abbrev pub invariant-gates : goal.invariant-gates
invariant-gates l = record {
  some : 0 < length l.rest;
  small : l.at + length l.rest ≡ length l.content;
  valid : All IsRecord l.records.items;
  read : (bodies : List (List ℕ)) × (l.content ≡ front bodies ++ l.rest) × AreRecords bodies l.records.items × (l.at ≡ length (front bodies));
}

abbrev pub decreases-gates : goal.decreases-gates
decreases-gates l = length l.rest
