-- The entries so far and those that are left have what all have.
use Rattle.std.proofs.Common.{◌≡◌, ◌+◌, ◌<◌, ◌^◌, drop}
use Rattle.ps_progress.specs.Downloads.{counts_of}
use Rattle.ps_progress.proofs.downloads.all_of.Given as goal

abbrev pub invariant-entries : goal.invariant-entries
invariant-entries l = record {
  sum : l.all + counts_of (drop l.entry-index l.entries) ≡ counts_of l.entries;
  held : l.all < 2 ^ 64;
}
