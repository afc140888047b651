use Rattle.std.proofs.Common.{◌≡◌, ◌≤◌, ◌-◌, ◌++◌, length, drop}
use Rattle.ps_yaml.specs.Lines.{IsText}
use Rattle.ps_yaml.specs.Scalars as words
use Rattle.ps_yaml.proofs.scalars.continued.Given as goal

abbrev pub invariant-lines : goal.invariant-lines
invariant-lines l = record {
  added : l.fn.text.items ++ (words.continued l.indent l.lines).0 ≡ l.text.items ++ (words.continued l.indent (drop l.place l.lines)).0;
  rest : (words.continued l.indent l.lines).1 ≡ (words.continued l.indent (drop l.place l.lines)).1;
  utf8 : IsText l.fn.text.items → IsText l.text.items;
  within : l.place ≤ length l.lines;
}

abbrev pub decreases-lines : goal.decreases-lines
decreases-lines l = length l.lines - l.place
