use Rattle.std.proofs.Common.{◌≡◌, ◌∙◌, length, filter, is_some, reverse, rules}
use Rattle.ps_compact.specs.Compaction.{targets_of}
use Rattle.ps_compact.proofs.Counts.{count-targets}
use Rattle.ps_compact.proofs.compaction.compact_front.Goals as goal

pub returns-clause-moved : goal.returns-clause-moved
returns-clause-moved c =
    let made : reverse c.in_ok-targets.targets.items ≡ targets_of c.args.front.items = search rules in
    let counted : c.moves-moved.result ≡ length (filter is_some c.in_ok-targets.targets.items) = search rules in
    counted ∙ count-targets c.in_ok-targets.targets.items (targets_of c.args.front.items) made
