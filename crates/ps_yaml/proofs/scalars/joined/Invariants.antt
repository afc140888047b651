use Rattle.std.proofs.Common.{◌≡◌, ◌++◌, ◌∷◌, take}
use Rattle.std.specs.List.{flat_map}
use Rattle.ps_yaml.specs.Lines.{Line, IsText}
use Rattle.ps_yaml.specs.Scalars.{unindented}
use Rattle.ps_yaml.proofs.scalars.joined.Given as goal

abbrev pub invariant-lines : goal.invariant-lines
invariant-lines l = record {
  value : l.text.items ≡ l.initial.text.items ++ flat_map (λ (x : Line). l.joint ∷ unindented l.depth x.text) (take l.line-index l.others);
  utf8 : IsText l.text.items;
}
