use Rattle.std.proofs.Common.{◌≡◌, ◌<◌, ◌^◌, take, subst, arith}
use Rattle.std.specs.List.{All}
use Rattle.std.proofs.lemmas.Grind.{common_steps}
use Rattle.std.proofs.lemmas.List.Elements.{All-more}
use Rattle.ps_lines.proofs.Tokens.{list_goes_on}
use Rattle.ps_lines.specs.Writing.{entry_json}
use Rattle.ps_lines.proofs.writers.write_entries.Goals as goal

pub entries-preserved : goal.entries-preserved
entries-preserved c =
    let entries = c.args.entries.now in
    let at = c.entries.entry-index in
    let entry = c.entry-item.result in
    let written = c.in_ok-write_entry.ensures in record {
      written = list_goes_on entry_json entries at entry c.begin_array.new.self c.entries.writer c.write_entry.new.writer
          (omega arith) (grind (arith, common_steps)) written.value c.entries.invariant.written;
      sums = All-more (λ entry. entry.sum.0 < 2 ^ 32) entries at entry (omega arith) c.entries.invariant.sums (grind (arith, common_steps));
      counts = All-more (λ entry. entry.count < 2 ^ 64) entries at entry (omega arith) c.entries.invariant.counts (grind (arith, common_steps));
    }

pub returns-clause-sums : goal.returns-clause-sums
returns-clause-sums c =
    let all : take c.entries.entry-index c.args.entries.now ≡ c.args.entries.now = grind (arith, common_steps) in
    subst (All (λ entry. entry.sum.0 < 2 ^ 32)) all c.entries.invariant.sums

pub returns-clause-counts : goal.returns-clause-counts
returns-clause-counts c =
    let all : take c.entries.entry-index c.args.entries.now ≡ c.args.entries.now = grind (arith, common_steps) in
    subst (All (λ entry. entry.count < 2 ^ 64)) all c.entries.invariant.counts
