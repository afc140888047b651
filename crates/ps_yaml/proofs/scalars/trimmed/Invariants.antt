use Rattle.std.proofs.Common.{◌≡◌, ◌+◌, ◌≤◌, length, take}
use Rattle.std.specs.List.{suffix_len}
use Rattle.ps_yaml.specs.Lines.{is_space, IsText}
use Rattle.ps_yaml.proofs.scalars.trimmed.Given as goal

abbrev pub invariant-spaces : goal.invariant-spaces
invariant-spaces l = record {
  value : l.end + suffix_len is_space l.text ≡ length l.text + suffix_len is_space (take l.end l.text);
  utf8 : IsText l.text → IsText (take l.end l.text);
  within : l.end ≤ length l.text;
}

abbrev pub decreases-spaces : goal.decreases-spaces
decreases-spaces l = l.end
