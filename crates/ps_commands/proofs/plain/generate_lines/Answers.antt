-- The lines are what is meant, over any files.
use Rattle.std.proofs.Common.{ap, sym, Ok, List, ℕ}
use Rattle.ps_commands.specs.Commands.{generate_lines}
use Rattle.ps_commands.specs.Meanings.{prints}
use Rattle.ps_commands.proofs.Readings.{completed, agree}
use Rattle.ps_commands.proofs.Nexts.{none_given}
use Rattle.ps_commands.proofs.plain.generate_lines.Goals as goal

pub returns-clause-finds : goal.returns-clause-finds
returns-clause-finds c = λ held before now words is. record {
  command = generate_lines c.args.count;
  is = is;
  given = completed held (generate_lines c.args.count) none_given;
  agree = agree held (generate_lines c.args.count) none_given;
  meant = ap (λ (text : List ℕ). Ok (prints text)) (sym c.in_ok-print_made.ensures);
}
